-- Calls of one destination, one after another.
use Rattle.std.proofs.Common.{◌≡◌, ℕ, List, [], ◌∷◌, ◌++◌, refl, ◌∙◌, arith}
use Rattle.std.specs.Prelude.{map}
use Rattle.hub_core.specs.Calls.{Means, SameMeans, ByReader}
use Rattle.hub_core.specs.Floors.{Floors, AreFresh}
use Rattle.hub_core.specs.View.{View, Event, Read, grow, grows}

-- one more call
pub grows-more : (events : List Event) (event : Event) (v : View) → grows (events ++ event ∷ []) v ≡ grow event (grows events v)
grows-more [] event v = refl
grows-more (first ∷ events) event v = grows-more events event (grow first v)

pub by-same : (path dest : ℕ) (v : View) → ByReader path dest 0 v v
by-same path dest v = record { sessions = refl; number = omega arith; others_of = λ other ne. refl; others = λ other ne. refl }

pub by-after : (path dest more : ℕ) (u v w : View) → ByReader path dest more u v → ByReader path dest 0 v w → ByReader path dest more u w
by-after path dest more u v w first second = record {
  sessions = second.sessions ∙ first.sessions;
  number = omega (arith, first.number, second.number);
  others_of = λ other ne. second.others_of other ne ∙ first.others_of other ne;
  others = λ other ne. second.others other ne ∙ first.others other ne;
}

pub means-same : (m : Means) → SameMeans m m
means-same m = record { pool = record { groups = refl; writes = refl; reads = refl; most = refl }; takes = refl; spare = omega arith }

pub means-after : (l m n : Means) → SameMeans l m → SameMeans m n → SameMeans l n
means-after l m n first second = record {
  pool = record {
    groups = second.pool.groups ∙ first.pool.groups;
    writes = second.pool.writes ∙ first.pool.writes;
    reads = second.pool.reads ∙ first.pool.reads;
    most = second.pool.most ∙ first.pool.most;
  };
  takes = second.takes ∙ first.takes;
  spare = omega (arith, first.spare, second.spare);
}

pub reads-fresh : (floors : Floors) (v : View) (path dest seq : ℕ) (cells : List ℕ) → AreFresh floors v (map (Read path dest seq) cells)
reads-fresh floors v path dest seq [] = tt
reads-fresh floors v path dest seq (cell ∷ cells) = (tt, reads-fresh floors (grow (Read path dest seq cell) v) path dest seq cells)
