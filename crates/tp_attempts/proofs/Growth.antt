-- What is kept, when one more frame comes.
use Rattle.std.proofs.Common.{◌≡◌, ℕ, ◌+◌, Bool, true, false, Option, None, Some, List, [], ◌∷◌, ◌++◌, ◌<◌, length, take, get_or, refl, ap, sym, subst, ◌∙◌, arith}
use Rattle.std.proofs.lemmas.Grind.{take_at_read}
use Rattle.std.specs.Prelude.{map}
use Rattle.std.proofs.lemmas.List.{map-append, length-take-le}
use Rattle.tp_unit.specs.Unit.{Meaning, ConsecutiveFrame}
use Rattle.can_frame.specs.Frame.{CanFrame}
use Rattle.tp_attempts.specs.declared.attempt.Attempt.{Attempt}
use Rattle.tp_attempts.specs.declared.begun.Begun.{Begun}
use Rattle.tp_attempts.specs.Cuts.{Cut}
use Rattle.tp_attempts.specs.Seen.{Seen, seen_frame, seen_from, is_start, len_of}
use Rattle.tp_attempts.specs.Walk.{Walk, joined, last_place, look, look_at, begun, walk_of}
use Rattle.tp_attempts.specs.Attempts.{attempts_in, told}
use Rattle.tp_attempts.specs.Following.{Keeps, IsWithin, IsCut}
use Rattle.tp_attempts.proofs.Cuts.{cuts-begin, cuts-more, cuts-none}
use Rattle.tp_attempts.proofs.Walks.{walk_of-more, len-walk_of}

-- what is told of an attempt is what is kept of it
pub same-attempt : (kept : Attempt) (start len end : ℕ) (bytes : List ℕ) → kept.start ≡ start → kept.len ≡ len → kept.bytes ≡ bytes → kept.end ≡ end → kept ≡ record { start = start; len = len; bytes = bytes; end = end }
same-attempt kept start len end bytes starts lens byteses ends = rw (← starts, ← lens, ← byteses, ← ends) refl

pub told-kept : (address : ℕ) (kept : Begun) (cut : Cut Seen) → Keeps kept cut.start.at (walk_of address cut) → kept.attempt ≡ told address cut
told-kept address kept cut keeps =
    same-attempt kept.attempt cut.start.at (len_of cut.start.meaning) (last_place cut.start.at (walk_of address cut).pieces) (joined (walk_of address cut).pieces) keeps.start (keeps.len ∙ len-walk_of address cut) keeps.bytes keeps.end

-- a frame that is no start belongs to the last attempt
pub goes-on : (address : ℕ) (functional : Bool) (done : List Attempt) (last more : Begun) (seen : List Seen) (frame : Seen) → is_start functional frame.meaning ≡ false →
    ((start : ℕ) (walk : Walk) → Keeps last start walk → Keeps more start (look address walk frame)) → IsWithin address done last (attempts_in functional seen) → IsWithin address done more (attempts_in functional (seen ++ frame ∷ []))
goes-on address functional done last more seen frame other looks within = record {
  earlier = within.earlier;
  cut = record { start = within.cut.start; after = within.cut.after ++ frame ∷ [] };
  are = cuts-more (λ (s : Seen). is_start functional s.meaning) seen frame within.earlier within.cut other within.are;
  told = within.told;
  keeps = rw (walk_of-more address within.cut frame) (looks within.cut.start.at (walk_of address within.cut) within.keeps);
}

-- a start begins an attempt, and ends the last one
pub starts-first : (address : ℕ) (functional : Bool) (done : List Attempt) (kept : Begun) (seen : List Seen) (frame : Seen) → is_start functional frame.meaning ≡ true →
    Keeps kept frame.at (begun frame) → IsCut address functional done None seen → IsWithin address done kept (attempts_in functional (seen ++ frame ∷ []))
starts-first address functional done kept seen frame is keeps before = record {
  earlier = [];
  cut = record { start = frame; after = [] };
  are = cuts-begin (λ (s : Seen). is_start functional s.meaning) seen frame is ∙ ap (λ earlier. earlier ++ record { start = frame; after = [] } ∷ []) before.1;
  told = before.0;
  keeps = keeps;
}

pub finishes : (address : ℕ) (done : List Attempt) (last : Begun) (attempts : List (Cut Seen)) → IsWithin address done last attempts → done ++ last.attempt ∷ [] ≡ map (told address) attempts
finishes address done last attempts within =
    rw (within.are, map-append, within.told, told-kept address last within.cut within.keeps) refl

pub starts-next : (address : ℕ) (functional : Bool) (done : List Attempt) (last kept : Begun) (seen : List Seen) (frame : Seen) → is_start functional frame.meaning ≡ true →
    Keeps kept frame.at (begun frame) → IsWithin address done last (attempts_in functional seen) → IsWithin address (done ++ last.attempt ∷ []) kept (attempts_in functional (seen ++ frame ∷ []))
starts-next address functional done last kept seen frame is keeps within = record {
  earlier = attempts_in functional seen;
  cut = record { start = frame; after = [] };
  are = cuts-begin (λ (s : Seen). is_start functional s.meaning) seen frame is;
  told = finishes address done last (attempts_in functional seen) within;
  keeps = keeps;
}

-- the same, where the last attempt is one that may not have begun
pub begins-first : (address : ℕ) (functional : Bool) (done : List Attempt) (last : Option Begun) (kept : Begun) (seen : List Seen) (frame : Seen) → last ≡ None → is_start functional frame.meaning ≡ true →
    Keeps kept frame.at (begun frame) → IsCut address functional done last seen → IsWithin address done kept (attempts_in functional (seen ++ frame ∷ []))
begins-first address functional done None kept seen frame none is keeps before = starts-first address functional done kept seen frame is keeps before
begins-first address functional done (Some last) kept seen frame none is keeps before = cc

pub begins-next : (address : ℕ) (functional : Bool) (done : List Attempt) (last : Option Begun) (before kept : Begun) (seen : List Seen) (frame : Seen) → last ≡ Some before → is_start functional frame.meaning ≡ true →
    Keeps kept frame.at (begun frame) → IsCut address functional done last seen → IsWithin address (done ++ before.attempt ∷ []) kept (attempts_in functional (seen ++ frame ∷ []))
begins-next address functional done last before kept seen frame some is keeps cut =
    starts-next address functional done before kept seen frame is keeps (let P : Option Begun → Type 0 = λ o. IsCut address functional done o seen in subst P some cut)

pub ends-first : (address : ℕ) (functional : Bool) (done : List Attempt) (last : Option Begun) (seen : List Seen) → last ≡ None → IsCut address functional done last seen → done ≡ map (told address) (attempts_in functional seen)
ends-first address functional done None seen none before = rw (before.0, before.1) refl
ends-first address functional done (Some last) seen none before = cc

pub ends-next : (address : ℕ) (functional : Bool) (done : List Attempt) (last : Option Begun) (before : Begun) (seen : List Seen) → last ≡ Some before → IsCut address functional done last seen →
    done ++ before.attempt ∷ [] ≡ map (told address) (attempts_in functional seen)
ends-next address functional done last before seen some cut =
    finishes address done before (attempts_in functional seen) (let P : Option Begun → Type 0 = λ o. IsCut address functional done o seen in subst P some cut)

-- a frame that no attempt looks at
pub passes : (address : ℕ) (functional : Bool) (done : List Attempt) (last : Option Begun) (seen : List Seen) (at size : ℕ) (meaning is : Meaning) → meaning ≡ is → is_start functional meaning ≡ false →
    ((walk : Walk) → look_at address walk at size meaning ≡ walk) → IsCut address functional done last seen → IsCut address functional done last (seen ++ record { at = at; size = size; meaning = is } ∷ [])
passes address functional done None seen at size meaning is same other looks before =
    rw (← same) (before.0, cuts-none (λ (s : Seen). is_start functional s.meaning) seen (record { at = at; size = size; meaning = meaning }) other before.1)
passes address functional done (Some last) seen at size meaning is same other looks before =
    rw (← same) (goes-on address functional done last last seen (record { at = at; size = size; meaning = meaning }) other (λ start walk keeps. rw (looks walk) keeps) before)

-- a consecutive frame before any attempt, and one in an attempt
pub passes-first : (address : ℕ) (functional : Bool) (done : List Attempt) (last : Option Begun) (seen : List Seen) (at size number : ℕ) (bytes : List ℕ) (is : Meaning) → last ≡ None → ConsecutiveFrame number bytes ≡ is →
    IsCut address functional done last seen → IsCut address functional done last (seen ++ record { at = at; size = size; meaning = is } ∷ [])
passes-first address functional done None seen at size number bytes is none same before =
    rw (← same) (before.0, cuts-none (λ (s : Seen). is_start functional s.meaning) seen (record { at = at; size = size; meaning = ConsecutiveFrame number bytes }) refl before.1)
passes-first address functional done (Some last) seen at size number bytes is none same before = cc

pub looks-on : (address : ℕ) (functional : Bool) (done : List Attempt) (last : Option Begun) (before more : Begun) (seen : List Seen) (at size number : ℕ) (bytes : List ℕ) (is : Meaning) → last ≡ Some before → ConsecutiveFrame number bytes ≡ is →
    ((start : ℕ) (walk : Walk) → Keeps before start walk → Keeps more start (look_at address walk at size (ConsecutiveFrame number bytes))) →
    IsCut address functional done last seen → IsWithin address done more (attempts_in functional (seen ++ record { at = at; size = size; meaning = is } ∷ []))
looks-on address functional done last before more seen at size number bytes is some same looks cut =
    rw (← same) (goes-on address functional done before more seen (record { at = at; size = size; meaning = ConsecutiveFrame number bytes }) refl looks (let P : Option Begun → Type 0 = λ o. IsCut address functional done o seen in subst P some cut))

-- one more frame is one more seen, in the next place
pub seen_from-more : (address place : ℕ) (frames : List CanFrame) (frame : CanFrame) → seen_from address place (frames ++ frame ∷ []) ≡ seen_from address place frames ++ seen_frame address (place + length frames) frame ∷ []
seen_from-more address place [] frame = let same : place ≡ place + 0 = omega arith in ap (λ n. seen_frame address n frame ∷ []) same
seen_from-more address place (first ∷ frames) frame =
    let same : place + 1 + length frames ≡ place + length (first ∷ frames) = omega arith in
    ap (λ later. seen_frame address place first ∷ later) (seen_from-more address (place + 1) frames frame ∙ ap (λ n. seen_from address (place + 1) frames ++ seen_frame address n frame ∷ []) same)

pub seen_from-next : (address : ℕ) (frames : List CanFrame) (place : ℕ) (frame : CanFrame) → place < length frames → frame ≡ get_or frames place frame →
    seen_from address 0 (take (place + 1) frames) ≡ seen_from address 0 (take place frames) ++ seen_frame address place frame ∷ []
seen_from-next address frames place frame inside is =
    let more : take (place + 1) frames ≡ take place frames ++ frame ∷ [] = (take_at_read frames place frame inside).1 ∙ ap (λ x. take place frames ++ x ∷ []) (sym is) in
    let count : 0 + length (take place frames) ≡ place = rw (length-take-le place frames (omega arith)) (omega arith) in
    ap (seen_from address 0) more ∙ seen_from-more address 0 (take place frames) frame ∙ ap (λ n. seen_from address 0 (take place frames) ++ seen_frame address n frame ∷ []) count
