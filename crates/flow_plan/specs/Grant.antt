-- What a flow control grants.
use Rattle.std.specs.Prelude.{ℕ, ◌/◌, ◌==◌, ◌&&◌, nat_le, if◌then◌else◌, min}
use Rattle.flow_plan.specs.declared.block.Grant.{Grant}
use Rattle.flow_plan.specs.declared.block.Grant.TheVariants.{All, Block, Wait}

-- how many of the next frames have room: all that remain, where these fit, and else as many as full frames fit
abbrev pub with_room : (room per_cf left_cells left_frames : ℕ) → ℕ
with_room room per_cf left_cells left_frames = if nat_le left_cells room then left_frames else room / per_cf

-- the most frames of a block: the configured number, and 255 where none is set
abbrev pub most_of : ℕ → ℕ
most_of bs = if bs == 0 then 255 else bs

-- of so many frames that have room and so many that remain: all where no limit is set, none where there is none, and else a block
abbrev pub granted_of : (bs frames left_frames : ℕ) → Grant
granted_of bs frames left_frames = if (bs == 0) && (frames == left_frames) then All else (if frames == 0 then Wait else Block (min frames (most_of bs)))

abbrev pub granted : (bs room per_cf left_cells left_frames : ℕ) → Grant
granted bs room per_cf left_cells left_frames = granted_of bs (with_room room per_cf left_cells left_frames) left_frames

-- how many frames a grant lets come, of so many that remain
abbrev pub frames_of : Grant → (left_frames : ℕ) → ℕ
frames_of All left_frames = left_frames
frames_of (Block frames) left_frames = frames
frames_of Wait left_frames = 0
