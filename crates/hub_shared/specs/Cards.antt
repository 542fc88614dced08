-- The words of a buffer's session: a card with its path, its number and who takes part, and its length.
use Rattle.std.specs.Prelude.{◌≡◌, ℕ, ◌+◌, ◌*◌, ◌/◌, ◌%◌, ◌^◌, ◌<◌, ◌≤◌, IsBitSet, if◌then◌else◌, zero, suc, List, length, get_or, Some}
use Rattle.hub_core.specs.Floors.{has_left}
use Rattle.hub_core.specs.Groups.{all_sizes}
use Rattle.hub_core.specs.View.{View, Session, session_at, reading_at}
use Rattle.hub_layout.specs.Places.{Place, Card, Length, place_at}
use Rattle.hub_shared.specs.Counts.{counts_one}
use Rattle.hub_shared.specs.declared.sight.Sought.{Sought}

-- Kinds of step on these words, each with what it tells and what it leaves the seat to know (Hand):
--   `enter`: an exchange of 0 for 0 announces the session (Entering); a store of the length (Prepared: the word has it); a store of the card,
--     which is Entered (Idle).
--   `next`: an exchange of 0 for 0 announces the session that is looked for, and tells whether it is there now, and where (Seeking): where it
--     isn't, no floor has it. Each load of a card of the group tells that the session is there (Seeking, with that buffer), or that it isn't in
--     that buffer as the look began. A load of the length of a session that is there is Joining, with the length (Idle). A load after all
--     cards ends a look that found nothing, which is Missed (Idle).
-- No step clears a party's bit yet.

-- where a word lies
abbrev pub place_of_word : List (List ℕ) → Place → ℕ
place_of_word groups place = place_at (length groups) (all_sizes groups) place

-- the bits of a session's destinations that take part, and of all its parties: the writer's is the lowest
abbrev pub dests_of : View → (path seq dests : ℕ) → ℕ
dests_of v path seq zero = 0
dests_of v path seq (suc dest) = (if has_left (λ r. r.stands) (reading_at v path dest seq) then 0 else 2 ^ (dest + 1)) + dests_of v path seq dest

abbrev pub parties_of : View → (path seq : ℕ) → Session → ℕ
parties_of v path seq s = counts_one s.stands + dests_of v path seq s.dests

-- a card: the number in its upper 47 bits, then eight bits for the path, and nine for the parties
abbrev pub card_of : (path seq parties : ℕ) → ℕ
card_of path seq parties = seq * 2 ^ 17 + path * 2 ^ 9 + parties

-- a session's path, destinations and length fit into its words
pub record IsSmall (path : ℕ) (s : Session) : Type 0 where
  pub path_small : path < 2 ^ 8
  pub dests_small : s.dests ≤ 8
  pub len_small : s.len < 2 ^ 32

-- a card is of the session that is sought, and its destination takes part
pub record IsCardFor (sought : Sought) (card : ℕ) : Type 0 where
  pub session : card / 2 ^ 9 ≡ sought.seq * 2 ^ 8 + sought.path
  pub dest : IsBitSet card (sought.dest + 1)

-- the words show each session of which a party takes part; no party's bit is set elsewhere
pub record ShowCards (groups : List (List ℕ)) (words : List ℕ) (v : View) : Type 0 where
  pub cards : (path seq : ℕ) (s : Session) → session_at v path seq ≡ Some s → 0 < parties_of v path seq s →
      get_or words (place_of_word groups (Card s.buf)) 0 ≡ card_of path seq (parties_of v path seq s)
  pub lengths : (path seq : ℕ) (s : Session) → session_at v path seq ≡ Some s → 0 < parties_of v path seq s → get_or words (place_of_word groups (Length s.buf)) 0 ≡ s.len
  pub small : (path seq : ℕ) (s : Session) → session_at v path seq ≡ Some s → IsSmall path s
  pub empty : (buf : ℕ) → buf < length (all_sizes groups) → ((path seq : ℕ) (s : Session) → session_at v path seq ≡ Some s → s.buf ≡ buf → parties_of v path seq s ≡ 0) →
      get_or words (place_of_word groups (Card buf)) 0 % 2 ^ 9 ≡ 0
