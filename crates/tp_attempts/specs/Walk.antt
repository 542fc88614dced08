-- What the frames of one attempt add up to (ISO 15765-2, segmentation and reassembly).
use Rattle.std.specs.Prelude.{ℕ, ◌-◌, ◌%◌, Bool, ◌&&◌, ◌==◌, nat_le, nat_lt, if◌then◌else◌, min, is_none, Option, Some, None, List, [], ◌∷◌, ◌++◌, length, take, fold}
use Rattle.std.specs.List.{flat_map}
use Rattle.tp_unit.specs.Unit.{Meaning, SingleFrame, FirstFrame, ConsecutiveFrame, FlowControl, NoUnit}
use Rattle.tp_attempts.specs.Cuts.{Cut}
use Rattle.tp_attempts.specs.Seen.{Seen, len_of, bytes_of}

-- the bytes that a counted frame adds, and where it stands
pub record Piece : Type 0 where
  pub at : ℕ
  pub bytes : List ℕ

-- a consecutive frame of another sequence number than the due one
pub record Wrong : Type 0 where
  pub at : ℕ
  pub want : ℕ
  pub got : ℕ

-- an attempt so far: the length of the message, the bytes of the start's frame, the pieces with the start's as the first,
-- and the wrong sequence number that ended it
pub record Walk : Type 0 where
  pub len : ℕ
  pub size : ℕ
  pub pieces : List Piece
  pub wrong : Option Wrong

-- the bytes of the pieces, one after another
abbrev pub joined : List Piece → List ℕ
joined pieces = flat_map (λ piece. piece.bytes) pieces

-- the place of the last piece, or this one where there is none
abbrev pub last_place : ℕ → List Piece → ℕ
last_place at pieces = fold (λ before piece. piece.at) at pieces

-- the sequence number that is due: it counts the pieces modulo 16
abbrev pub due_number : Walk → ℕ
due_number walk = length walk.pieces % 16

-- the bytes that the next consecutive frame must carry: a whole frame's, or what remains
abbrev pub due : ℕ → Walk → ℕ
due address walk = min (walk.size - 1 - address) (walk.len - length (joined walk.pieces))

-- the message isn't whole and no number was wrong
abbrev pub is_open : Walk → Bool
is_open walk = nat_lt (length (joined walk.pieces)) walk.len && is_none walk.wrong

-- a consecutive frame is passed over where its frame is longer than the start's or it carries less than what is due;
-- else its first due bytes are counted, or the attempt ends by its number
abbrev pub look_at : ℕ → Walk → ℕ → ℕ → Meaning → Walk
look_at address walk at size (ConsecutiveFrame number bytes) =
    if is_open walk && nat_le size walk.size && nat_le (due address walk) (length bytes)
    then (if number == due_number walk
    then record walk { pieces = walk.pieces ++ record { at = at; bytes = take (due address walk) bytes } ∷ [] }
    else record walk { wrong = Some (record { at = at; want = due_number walk; got = number }) })
    else walk
look_at address walk at size (SingleFrame bytes) = walk
look_at address walk at size (FirstFrame len bytes) = walk
look_at address walk at size (FlowControl status block_size separation) = walk
look_at address walk at size (NoUnit why) = walk

abbrev pub look : ℕ → Walk → Seen → Walk
look address walk seen = look_at address walk seen.at seen.size seen.meaning

-- the attempt as its start begins it
abbrev pub begun : Seen → Walk
begun start = record { len = len_of start.meaning; size = start.size; pieces = record { at = start.at; bytes = bytes_of start.meaning } ∷ []; wrong = None }

-- the attempt after all its frames
abbrev pub walk_of : ℕ → Cut Seen → Walk
walk_of address cut = fold (look address) (begun cut.start) cut.after

-- the bytes of an attempt
abbrev pub reassembled : ℕ → Cut Seen → List ℕ
reassembled address cut = joined (walk_of address cut).pieces
