-- What stands at the front of the bytes that a reader has read, and stops it.
use Rattle.std.proofs.Common.{◌≡◌, ◌≢◌, ℕ, ◌+◌, ◌-◌, ◌<◌, ◌≤◌, ◌⊎◌, true, false, cond, ◌==◌, Err, List, [], ◌∷◌, ◌++◌, length, take, refl, sym, ◌∙◌, ap, inl, inr, append_assoc, length-append, length-take, arith}
use Rattle.std.specs.Prelude.{slice_index}
use Rattle.std.proofs.lemmas.Bool.{cases_eq}
use Rattle.std.proofs.lemmas.List.Elements.{All-nil, All-cons, All-append}
use Rattle.candump_line.proofs.ReadLemmas.{line-too_long}
use Rattle.candump_line.specs.declared.fault.LineKind.TheVariants.{TooLong}
use Rattle.candump_log.specs.Source.{Source}
use Rattle.candump_log.specs.declared.log.LineStop.{LineStop}
use Rattle.candump_log.specs.declared.log.LineStop.TheVariants.{Memory, Refused, Limit}
use Rattle.candump_log.specs.declared.log.Stamped.{Stamped}
use Rattle.candump_log.specs.Line.{taken_by, taken_of, without_return}
use Rattle.candump_log.specs.Log.{HasNoFeed, ended, EndsLine, StopsAt, GoesPast, Stops, Refuses}
use Rattle.candump_log.specs.Reader.{TakenSoFar}

-- the line at the front of some bytes
pub record FrontLine (bytes : List ℕ) : Type 0 where
  pub line : List ℕ
  pub tail : List ℕ
  pub all : bytes ≡ line ++ tail
  pub is_line : HasNoFeed line
  pub ends : (tail ≡ []) ⊎ ((later : List ℕ) × (tail ≡ 10 ∷ later))

pub front_line : (bytes : List ℕ) → FrontLine bytes
front_line [] = record { line = []; tail = []; all = refl; is_line = All-nil (λ b. b ≢ 10); ends = inl refl }
front_line (b ∷ bytes) =
    let rest : FrontLine bytes = front_line bytes in
    elim (cases_eq b 10) [
      | inl feed ↦ record { line = []; tail = b ∷ bytes; all = refl; is_line = All-nil (λ b. b ≢ 10); ends = inr (bytes, rw feed refl) }
      | inr other ↦ record { line = b ∷ rest.line; tail = rest.tail; all = ap (λ t. b ∷ t) rest.all; is_line = All-cons (λ b. b ≢ 10) b rest.line other rest.is_line; ends = rest.ends }
    ]

-- dropping one carriage return leaves all but one byte
without_return-long : (line : List ℕ) → length line ≤ length (without_return line) + 1
without_return-long line =
    elim (slice_index line (length line - 1) == 13) as (λ b. length line ≤ length (cond b (take (length line - 1) line) line) + 1) [
      | true ↦ rw length-take (omega arith)
      | false ↦ omega arith
    ]

-- a line of more than 512 bytes is too long
pub too_long : (source : Source) (line : List ℕ) → 514 ≤ length line → taken_by source line ≡ Err (record { kind = TooLong; at = 512 })
too_long source line long =
    let much : 513 ≤ length (without_return line) = omega (arith, long, without_return-long line) in
    ap (λ r. taken_of source.fd r) (line-too_long source.interface (without_return line) much)

-- the line that ends here is refused
pub stops_line : (source : Source) (most : ℕ) (bytes unread line tail later : List ℕ) (count : ℕ) (frames : List Stamped) (stop : LineStop) →
    TakenSoFar source bytes unread count frames → unread ++ later ≡ line ++ tail → HasNoFeed line → EndsLine line tail → count < most → Refuses source line count stop →
    Stops source most (bytes ++ later) stop
stops_line source most bytes unread line tail later count frames Memory so_far all none ends few refused = tt
stops_line source most bytes unread line tail later count frames (Refused number fault) so_far all none ends few refused = record {
  lines = so_far.lines;
  line = line;
  tail = tail;
  bytes = ap (λ t. t ++ later) so_far.bytes_are ∙ append_assoc (ended so_far.lines) unread later ∙ ap (λ t. ended so_far.lines ++ t) all ∙ sym (append_assoc (ended so_far.lines) line tail);
  no_feed = so_far.no_feed;
  taken = so_far.taken;
  is_line = none;
  ends = ends;
  refused = refused.1;
  count = refused.0 ∙ ap (λ n. n + 1) so_far.count_is;
  within = omega (arith, refused.0, few);
}
stops_line source most bytes unread line tail later count frames Limit so_far all none ends few refused = absurd refused

-- the line is too long, wherever it ends
pub stops_long : (source : Source) (most : ℕ) (bytes unread front rest later : List ℕ) (count number : ℕ) (frames : List Stamped) →
    TakenSoFar source bytes unread count frames → unread ≡ front ++ rest → HasNoFeed front → 514 ≤ length front → number ≡ count + 1 → count < most →
    StopsAt source most (bytes ++ later) number (record { kind = TooLong; at = 512 })
stops_long source most bytes unread front rest later count number frames so_far is none long counted few =
    let more : FrontLine (rest ++ later) = front_line (rest ++ later) in
    let line : List ℕ = front ++ more.line in
    let much : 514 ≤ length line = rw length-append (omega (arith, long)) in
    let some : line ≢ [] = λ empty. let zero : length line ≡ 0 = ap length empty in omega (arith, zero, much) in
    let all : unread ++ later ≡ line ++ more.tail = ap (λ t. t ++ later) is ∙ append_assoc front rest later ∙ ap (λ t. front ++ t) more.all ∙ sym (append_assoc front more.line more.tail) in
    stops_line source most bytes unread line more.tail later count frames (Refused number (record { kind = TooLong; at = 512 })) so_far all
    (All-append (λ b. b ≢ 10) front more.line none more.is_line)
    (elim more.ends [ inl empty ↦ inl (empty, some) | inr feed ↦ inr feed ])
    few (counted, too_long source line much)

still_some : (xs ys : List ℕ) → xs ≢ [] → xs ++ ys ≢ []
still_some [] ys some = absurd (some refl)
still_some (x ∷ xs) ys some = λ e. cc

-- one line too many begins
pub stops_past : (source : Source) (most : ℕ) (bytes unread later : List ℕ) (count : ℕ) (frames : List Stamped) →
    TakenSoFar source bytes unread count frames → unread ≢ [] → count ≡ most → GoesPast source (bytes ++ later) most
stops_past source most bytes unread later count frames so_far some full = record {
  lines = so_far.lines;
  rest = unread ++ later;
  bytes = ap (λ t. t ++ later) so_far.bytes_are ∙ append_assoc (ended so_far.lines) unread later;
  no_feed = so_far.no_feed;
  taken = so_far.taken;
  count = sym so_far.count_is ∙ full;
  further = still_some unread later some;
}
