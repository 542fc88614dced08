-- What the moves of the pool of buffers are, and what the records of the source channels say of them (this project's own).
use Rattle.std.specs.Prelude.{◌≡◌, ℕ, ◌+◌, ◌-◌, ◌^◌, ◌<◌, ◌≤◌, ◌==◌, ◌↔◌, if◌then◌else◌, zero, suc, true, false, Option, Some, None, List, length, map, find, slice_get, IsBitSet, [], ◌∷◌}
use Rattle.hub_core.specs.Moves.{move_of}
use Rattle.tp_receiver.specs.Grant.{need_of}
use Rattle.tp_receiver.specs.State.{RxTurn, rx_new}
use Rattle.tp_receiver.specs.Runs.{HasReceived, frames_in}
use Rattle.hub_core.specs.Turns.{calls_by, came_by, state_after, records_by}
use Rattle.std.specs.List.{AllByRecursion, AllZip}
use Rattle.gw_base.specs.Fit.{IsSmallest, NoneFits}
use Rattle.gw_base.specs.declared.numbers.BufNo.{BufNo}
use Rattle.hub_core.specs.Journal.{AreInOrder, numbered}
use Rattle.hub_core.specs.Groups.{IsWordOf, changes_in, group_of, place_of, sizes_of}
use Rattle.hub_core.specs.Joint.{Joint, IsOver}
use Rattle.hub_core.specs.View.{View, Event, Session, Taken, empty_view, grows, session_at}
use Rattle.hub_core.specs.View.{Took, Refused, Entered, Asked, Put, Published, Joining, Missed, Saw, Read, Closed, Parted}
use Rattle.hub_core.specs.declared.record.Move.{Move}
use Rattle.hub_core.specs.declared.record.OpenedAt.{OpenedAt}
use Rattle.hub_core.specs.declared.record.SessionRecord.{SessionRecord}
use Rattle.hub_core.specs.declared.record.SessionResult.TheVariants.{Overflow}
use Rattle.tp_attempts.specs.Attempts.{attempts_in}
use Rattle.tp_attempts.specs.Cuts.{Cut}
use Rattle.tp_attempts.specs.Seen.{Seen, bytes_of, len_of}
use Rattle.tp_receiver.specs.declared.set.RxSet.{RxSet}
use Rattle.receiver_law.specs.Source.{CountsFrom}

-- the number of a buffer in its group, where buffers are numbered through the groups
abbrev pub place_in : List (List ℕ) → BufNo → BufNo
place_in groups buf = record { 0 = place_of groups buf.0 }

-- the moves of a group's buffers, each with the number of its buffer in the group
abbrev pub moves_of : List (List ℕ) → (group : ℕ) → List Move → List Move
moves_of groups group [] = []
moves_of groups group (move ∷ moves) = if group_of groups move.buf.0 == group then record move { buf = place_in groups move.buf } ∷ moves_of groups group moves else moves_of groups group moves

-- the move of a number, where there is one
abbrev pub move_numbered : List Move → ℕ → Option Move
move_numbered moves number = find (λ move. move.change == number) moves

-- the free set after a move: a taken buffer's bit goes, a freed one's comes back
abbrev pub free_after : Option Move → ℕ → ℕ
free_after None free = free
free_after (Some move) free = if move.took then free - 2 ^ move.buf.0 else free + 2 ^ move.buf.0

-- the free set after the moves up to a number; at first all buffers are free
abbrev pub free_at : List ℕ → List Move → ℕ → ℕ
free_at sizes moves zero = 2 ^ length sizes - 1
free_at sizes moves (suc number) = free_after (move_numbered moves (suc number)) (free_at sizes moves number)

-- a move is lawful on a free set: it is of a buffer of the pool, which it takes exactly where it was free
pub record IsLawfulMove (sizes : List ℕ) (free : ℕ) (move : Move) : Type 0 where
  pub there : move.buf.0 < length sizes
  pub kind : (move.took ≡ true) ↔ IsBitSet free move.buf.0

-- the moves are numbered from 1 to their count, each is lawful on the free set after those before it, and the free set is the one after all
pub record IsReplayed (sizes : List ℕ) (count free : ℕ) (moves : List Move) : Type 0 where
  pub numbered : CountsFrom 1 (map (λ (move : Move). move.change) moves)
  pub count_is : count ≡ length moves
  pub each : (number : ℕ) → number < count → (move : Move) × (move_numbered moves (number + 1) ≡ Some move) × IsLawfulMove sizes (free_at sizes moves number) move
  pub free_is : free ≡ free_at sizes moves count

-- the cells that an attempt's start asks for
abbrev pub start_need : RxSet → Cut Seen → ℕ
start_need set attempt = need_of set attempt.start.size (len_of attempt.start.meaning) (length (bytes_of attempt.start.meaning))

-- the move of a number takes, or frees, a buffer
abbrev pub taking : ℕ → BufNo → Move
taking number buf = record { change = number; took = true; buf = buf }

abbrev pub freeing : ℕ → BufNo → Move
freeing number buf = record { change = number; took = false; buf = buf }

-- a session's buffer is one of the group, taken by the group's move that its record names: the smallest one that fits, of those free
-- after the moves before
pub record IsServed (groups : List (List ℕ)) (group : ℕ) (moves : List Move) (need : ℕ) (opened : OpenedAt) : Type 0 where
  pub before : ℕ
  pub change_is : opened.change ≡ before + 1
  pub its : group_of groups opened.buf.0 ≡ group
  pub takes : move_numbered moves opened.change ≡ Some (taking opened.change (place_in groups opened.buf))
  pub smallest : IsSmallest (sizes_of groups group) (free_at (sizes_of groups group) moves before) need (place_of groups opened.buf.0)

-- an overflow tells the group's free set after some of its moves, and no buffer of it fits
pub record IsRefused (sizes : List ℕ) (moves : List Move) (need change free asked : ℕ) : Type 0 where
  pub need_is : asked ≡ need
  pub there : change ≤ length moves
  pub free_is : free ≡ free_at sizes moves change
  pub none_fits : NoneFits sizes free need

-- what the record of an attempt says of its path's group of buffers
pub record Asks (groups : List (List ℕ)) (group : ℕ) (moves : List Move) (set : RxSet) (attempt : Cut Seen) (told : SessionRecord) : Type 0 where
  pub served : (opened : OpenedAt) → told.opened ≡ Some opened → IsServed groups group moves (start_need set attempt) opened
  pub refused : (change free need : ℕ) → told.result ≡ Overflow change free need → IsRefused (sizes_of groups group) moves (start_need set attempt) change free need

-- the move of a number is of the buffer
abbrev pub MovesBuf : List Move → (buf number : ℕ) → Type 0
MovesBuf moves buf number = (move : Move) × (move_numbered moves number ≡ Some move) × (move.buf.0 ≡ buf)

-- the first number after another whose move is of the buffer
pub record IsNextMove (moves : List Move) (buf number next : ℕ) : Type 0 where
  pub moves_buf : MovesBuf moves buf next
  pub after : number < next
  pub first : (other : ℕ) → MovesBuf moves buf other → number < other → next ≤ other

-- a source channel: how it is configured, its attempts, and the records of its units
pub record Channel : Type 0 where
  pub set : RxSet
  pub attempts : List (Cut Seen)
  pub records : List SessionRecord

-- the record in a place of a channel opened that session
pub record IsOpened (channels : List Channel) (chan place : ℕ) (opened : OpenedAt) : Type 0 where
  pub channel : Channel
  pub channel_is : slice_get channels chan ≡ Some channel
  pub told : SessionRecord
  pub told_is : slice_get channel.records place ≡ Some told
  pub opened_is : told.opened ≡ Some opened

-- no record's session was opened by the move of a number
abbrev pub IsUnnamed : List Channel → ℕ → Type 0
IsUnnamed channels number = (chan place : ℕ) (opened : OpenedAt) → IsOpened channels chan place opened → opened.change ≡ number → ⊥

-- the moves of a group replay, each record's buffer or overflow is right by them, each session has a take of its own, a take without a
-- session is the last move of its buffer, and the next move of a taken buffer, where there is one, is its free
pub record PoolLaw (groups : List (List ℕ)) (group count free : ℕ) (channels : List Channel) (moves : List Move) : Type 0 where
  pub replayed : IsReplayed (sizes_of groups group) count free moves
  pub asks : AllByRecursion (λ (channel : Channel). AllZip (Asks groups group moves channel.set) channel.attempts channel.records) channels
  pub own : (chan other_chan place other : ℕ) (opened reopened : OpenedAt) → IsOpened channels chan place opened → IsOpened channels other_chan other reopened → opened.change ≡ reopened.change → (chan ≡ other_chan) × (place ≡ other)
  pub unused : (number later : ℕ) (buf : BufNo) → move_numbered moves number ≡ Some (taking number buf) → IsUnnamed channels number → MovesBuf moves buf.0 later → later ≤ number
  pub next : (number later : ℕ) (buf : BufNo) → move_numbered moves number ≡ Some (taking number buf) → IsNextMove moves buf.0 number later → move_numbered moves later ≡ Some (freeing later buf)

-- the next move of each session's buffer is its free
abbrev pub AreFreed : List (List ℕ) → List Channel → List Move → Type 0
AreFreed groups channels moves = (chan place : ℕ) (opened : OpenedAt) → IsOpened channels chan place opened →
    (later : ℕ) × IsNextMove moves (place_of groups opened.buf.0) opened.change later × (move_numbered moves later ≡ Some (freeing later (place_in groups opened.buf)))

-- a record names the take of that number
pub record NamesTake (groups : List (List ℕ)) (channels : List Channel) (number : ℕ) (move : Move) : Type 0 where
  pub chan : ℕ
  pub place : ℕ
  pub opened : OpenedAt
  pub is : IsOpened channels chan place opened
  pub change_is : opened.change ≡ number
  pub buf_is : place_in groups opened.buf ≡ move.buf

-- each take is one that a record names
abbrev pub AreNamed : List (List ℕ) → List Channel → List Move → Type 0
AreNamed groups channels moves = (number : ℕ) (move : Move) → move_numbered moves number ≡ Some move → move.took ≡ true → NamesTake groups channels number move

-- once all sessions are over: the next move of each session's buffer is its free, and where no take is without a session, the last
-- free set has every buffer of the group
pub record PoolEnds (groups : List (List ℕ)) (group free : ℕ) (channels : List Channel) (moves : List Move) : Type 0 where
  pub freed : AreFreed groups channels moves
  pub whole : AreNamed groups channels moves → (buf : ℕ) → buf < length (sizes_of groups group) → IsBitSet free buf

-- a take and an overflow of a call stand in a view
abbrev pub IsIn : View → Event → Type 0
IsIn v (Took group number buf size need) = (place : ℕ) × (slice_get v.changes place ≡ Some (Taken number buf need))
IsIn v (Refused group number free need) = (place : ℕ) × (slice_get v.refused place ≡ Some (record { group = group; number = number; free = free; need = need }))
IsIn v (Entered path seq buf number size len readers) = Unit {0}
IsIn v (Asked path seq cells readers) = Unit {0}
IsIn v (Put path seq cell) = Unit {0}
IsIn v (Published path seq bytes) = Unit {0}
IsIn v (Joining path dest seq buf len) = Unit {0}
IsIn v (Missed group path dest seq) = Unit {0}
IsIn v (Saw path dest seq cells bytes writer) = Unit {0}
IsIn v (Read path dest seq cell) = Unit {0}
IsIn v (Closed path seq freed) = Unit {0}
IsIn v (Parted path dest seq freed) = Unit {0}

-- a receiver, and its turns
pub record Source : Type 0 where
  pub set : RxSet
  pub turns : List RxTurn

-- what is told of its channel
abbrev pub channel_of : Source → Channel
channel_of source = record { set = source.set; attempts = attempts_in source.set.functional (came_by frames_in source.turns); records = records_by source.turns }

-- a whole run of a receiver of a path of the group, and the joined view of its hub: the path's sessions are what the receiver's calls
-- made, and lie in the group; its takes and overflows are in the view
pub record IsWholeRun (groups : List (List ℕ)) (group : ℕ) (v : View) (source : Source) : Type 0 where
  pub received : HasReceived source.set source.turns
  pub idle : (state_after rx_new source.turns).busy ≡ None
  pub group_is : source.set.group.0 ≡ group
  pub calls : AllByRecursion (IsIn v) (calls_by source.turns)
  pub sessions : v.sessions source.set.path.0 ≡ (grows (calls_by source.turns) empty_view).sessions source.set.path.0
  pub its : (seq : ℕ) (s : Session) → session_at v source.set.path.0 seq ≡ Some s → group_of groups s.buf ≡ group

-- whole runs of the receivers of all paths that have sessions in a group, each of a path of its own, and the group's changes in order
pub record IsPoolRun (sources : List Source) (groups : List (List ℕ)) (group count free : ℕ) (v : View) (moves : List Move) : Type 0 where
  pub joint : Joint groups v
  pub word : IsWordOf groups group v count free
  pub moves_are : moves ≡ map move_of (changes_in groups group v)
  pub in_order : AreInOrder (changes_in groups group v)
  pub runs : AllByRecursion (IsWholeRun groups group v) sources
  pub apart : (chan other : ℕ) (source another : Source) → slice_get sources chan ≡ Some source → slice_get sources other ≡ Some another → source.set.path.0 ≡ another.set.path.0 → chan ≡ other
  pub all : (path seq : ℕ) (s : Session) → session_at v path seq ≡ Some s → group_of groups s.buf ≡ group → (chan : ℕ) × (source : Source) × (slice_get sources chan ≡ Some source) × (source.set.path.0 ≡ path)

-- the writer and the destinations of each session have left
abbrev pub AreAllOver : View → Type 0
AreAllOver v = (path seq : ℕ) (s : Session) → session_at v path seq ≡ Some s → IsOver v path seq s

-- each take of a group is one of its sessions'
abbrev pub AreAllUsed : List (List ℕ) → ℕ → View → Type 0
AreAllUsed groups group v = (number place need : ℕ) → numbered (changes_in groups group v) number ≡ Some (Taken number place need) →
    (path : ℕ) × (seq : ℕ) × (s : Session) × (session_at v path seq ≡ Some s) × (s.number ≡ number) × (group_of groups s.buf ≡ group)
