-- The attempts to send a message in a list of frames of one identifier and address.
use Rattle.std.specs.Prelude.{ℕ, Bool, List, map}
use Rattle.can_frame.specs.Frame.{CanFrame}
use Rattle.tp_attempts.specs.declared.attempt.Attempt.{Attempt}
use Rattle.tp_attempts.specs.Cuts.{Cut, cuts}
use Rattle.tp_attempts.specs.Seen.{Seen, seen_from, is_start, len_of}
use Rattle.tp_attempts.specs.Walk.{walk_of, joined, last_place}

-- the frames cut at each single frame and, unless the channel is functional, each first frame
abbrev pub attempts_in : Bool → List Seen → List (Cut Seen)
attempts_in functional seen = cuts (λ frame. is_start functional frame.meaning) seen

-- an attempt as it is told: where it starts, its length, its bytes, where it ends
abbrev pub told : ℕ → Cut Seen → Attempt
told address cut = record {
  start = cut.start.at;
  len = len_of cut.start.meaning;
  bytes = joined (walk_of address cut).pieces;
  end = last_place cut.start.at (walk_of address cut).pieces;
}

-- the attempts of these frames
abbrev pub attempts_of : ℕ → Bool → List CanFrame → List Attempt
attempts_of address functional frames = map (told address) (attempts_in functional (seen_from address 0 frames))
