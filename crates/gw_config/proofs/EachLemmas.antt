-- A reading for each index, begun from the first ones.
use Rattle.std.proofs.Common.{◌≡◌, ℕ, suc, ◌+◌, ◌-◌, ◌<◌, ◌≤◌, Bool, true, List, [], ◌∷◌, ◌++◌, length, Result, Ok, Err, append_assoc, append-nil, length-append, refl, sym, ap, ◌∙◌, arith}
use Rattle.std.specs.List.{list_all}
use Rattle.std.proofs.lemmas.List.Folds.{list_all-append}
use Rattle.gw_settings.specs.declared.fault.ConfigFault.{ConfigFault}
use Rattle.gw_settings.specs.declared.fault.ConfigError.{ConfigError}
use Rattle.gw_settings.specs.declared.fault.ConfigError.TheVariants.{Fault, Memory}
use Rattle.gw_config.specs.Outcome.{◌>>=◌, Blames}
use Rattle.gw_config.specs.Rows.{each_from}

-- the values so far, and then what the rest gives
abbrev pub after : {A : Type 0} → List A → Result (List A) ConfigFault → Result (List A) ConfigFault
after done (Ok rest) = Ok (done ++ rest)
after done (Err fault) = Err fault

after_nil : {A : Type 0} (rest : Result (List A) ConfigFault) → rest ≡ after [] rest
after_nil (Ok rest) = refl
after_nil (Err fault) = refl

after_one : {A : Type 0} (done : List A) (value : A) (rest : Result (List A) ConfigFault) →
    after done (rest >>= (λ values. Ok (value ∷ values))) ≡ after (done ++ value ∷ []) rest
after_one done value (Ok rest) = ap Ok (sym (append_assoc done (value ∷ []) rest))
after_one done value (Err fault) = refl

module _ {A : Type 0} (read : ℕ → Result A ConfigFault) (count : ℕ) where
  -- the whole is the values so far and the rest from `next` on
  abbrev pub SoFar : List A → ℕ → Type 0
  SoFar done next = each_from read 0 count ≡ after done (each_from read next (count - next))

  split : (done : List A) (next : ℕ) → next < count → SoFar done next →
      each_from read 0 count ≡ after done (read next >>= (λ value. each_from read (next + 1) (count - (next + 1)) >>= (λ rest. Ok (value ∷ rest))))
  split done next within so_far =
      let more : count - next ≡ suc (count - (next + 1)) = omega arith in
      so_far ∙ rw more refl

-- the values so far: as many as indexes, each of which fits, and the whole goes on from them
pub record IsReadTo {A : Type 0} (read : ℕ → Result A ConfigFault) (fits : A → Bool) (count : ℕ) (done : List A) (next : ℕ) : Type 0 where
  pub so_far : SoFar read count done next
  pub as_many : length done ≡ next
  pub each_fits : list_all fits done ≡ true

module _ {A : Type 0} (read : ℕ → Result A ConfigFault) (fits : A → Bool) (count : ℕ) where
  pub read_none : (done : List A) → done ≡ [] → IsReadTo read fits count done 0
  read_none done empty =
      let all : count - 0 ≡ count = omega arith in
      rw empty (record { so_far = rw all (after_nil (each_from read 0 count)); as_many = refl; each_fits = refl })

  pub read_more : (done longer : List A) (next : ℕ) (value : A) → next < count → IsReadTo read fits count done next →
      read next ≡ Ok value → fits value ≡ true → longer ≡ done ++ value ∷ [] → IsReadTo read fits count longer (next + 1)
  read_more done longer next value within before is fit same = rw same (record {
    so_far = split read count done next within before.so_far ∙ rw is (after_one done value (each_from read (next + 1) (count - (next + 1))));
    as_many = rw (length-append, before.as_many) refl;
    each_fits = rw (list_all-append fits done (value ∷ []), before.each_fits, fit) refl;
  })

  pub read_fault : (done : List A) (next : ℕ) (error : ConfigError) → next < count → IsReadTo read fits count done next →
      Blames (read next) error → Blames (each_from read 0 count) error
  read_fault done next (Fault fault) within before is = split read count done next within before.so_far ∙ rw is refl
  read_fault done next Memory within before is = tt

  pub read_all : (done : List A) (next : ℕ) → count ≤ next → IsReadTo read fits count done next → each_from read 0 count ≡ Ok done
  read_all done next end before =
      let none : count - next ≡ 0 = omega (arith, end) in
      before.so_far ∙ rw (none, append-nil) refl
