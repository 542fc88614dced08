-- What the queues of one thread show: the port is the whole of each, and its floors are the present numbers.
use Rattle.std.specs.Prelude.{◌≡◌, ℕ, ◌+◌, ◌<◌, Bool, true, false, List, length, Option, Some, None, slice_get}
use Rattle.if_core.specs.Calls.{View, Means, Floors}
use Rattle.if_core.specs.Lane.{Lane, empty_lane, took}
use Rattle.if_core.specs.Past.{lane_of}
use Rattle.if_core.specs.Unit.{UnitOf}
use Rattle.if_core.specs.declared.queue.PlainQueue.{PlainQueue}

-- what an answer to a take adds to a queue's past
abbrev pub lane_after : Option (ℕ × UnitOf) → Lane → Lane
lane_after None lane = lane
lane_after (Some answer) lane = took answer.0 answer.1 lane

-- the answer to a take of a queue at a position into which so many units were queued, and the position after it
abbrev pub IsTaken : (position count next : ℕ) → Option (ℕ × UnitOf) → Type 0
IsTaken position count next None = (position ≡ count) × (next ≡ position)
IsTaken position count next (Some answer) = (answer.0 ≡ position) × (position < count) × (next ≡ position + 1)

abbrev pub if_there : {A : Type 0} → (PlainQueue → A) → A → Option PlainQueue → A
if_there f other None = other
if_there f other (Some queue) = f queue

-- something of the queue of a path, or another value where there is none
abbrev pub by_path : {A : Type 0} → (PlainQueue → A) → A → List PlainQueue → ℕ → A
by_path f other queues path = if_there f other (slice_get queues path)

-- what was done with a queue
abbrev pub past_of : PlainQueue → Lane
past_of queue = lane_of queue.past.seat.me.0

-- a queue of a depth and a kind with which nothing was done
abbrev pub IsNew : ℕ × Bool → PlainQueue → Type 0
IsNew kind queue = (past_of queue ≡ empty_lane) × (queue.depth ≡ kind.0) × (queue.keep ≡ kind.1)

-- each queue that has a kind is a new one of it
abbrev pub EachIsNew : List (ℕ × Bool) → List PlainQueue → Type 0
EachIsNew kinds queues = (path : ℕ) (kind : ℕ × Bool) (queue : PlainQueue) →
    slice_get kinds path ≡ Some kind → slice_get queues path ≡ Some queue → IsNew kind queue

-- for each kind there is a new queue, and there are no others
abbrev pub AreNew : List (ℕ × Bool) → List PlainQueue → Type 0
AreNew kinds queues = (length queues ≡ length kinds) × EachIsNew kinds queues

abbrev pub view_of : List PlainQueue → View
view_of queues = by_path past_of empty_lane queues

abbrev pub means_of : List PlainQueue → Means
means_of queues = record {
  depth = by_path (λ queue. queue.depth) 0 queues;
  keep = by_path (λ queue. queue.keep) false queues;
  offers = by_path (λ queue. true) false queues;
  takes = by_path (λ queue. true) false queues;
  whole = by_path (λ queue. true) false queues;
}

abbrev pub floors_of : List PlainQueue → Floors
floors_of queues = record {
  position = by_path (λ queue. queue.position) 0 queues;
  gone = by_path (λ queue. queue.position) 0 queues;
  count = by_path (λ queue. queue.count) 0 queues;
}

abbrev pub if_given : {A : Type 0} → (ℕ × Bool → A) → A → Option (ℕ × Bool) → A
if_given f other None = other
if_given f other (Some kind) = f kind

-- what a port of that many queues may do, each given by its depth and whether it keeps what it has: all
abbrev pub plain_means : List (ℕ × Bool) → Means
plain_means kinds = record {
  depth = λ path. if_given (λ kind. kind.0) 0 (slice_get kinds path);
  keep = λ path. if_given (λ kind. kind.1) false (slice_get kinds path);
  offers = λ path. if_given (λ kind. true) false (slice_get kinds path);
  takes = λ path. if_given (λ kind. true) false (slice_get kinds path);
  whole = λ path. if_given (λ kind. true) false (slice_get kinds path);
}
