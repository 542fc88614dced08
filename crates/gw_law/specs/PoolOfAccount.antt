-- What the moves of the pool are in a run, by the records of all its source channels: group of buffers by group (this project's own).
use Rattle.std.specs.Prelude.{ℕ, ◌<◌, ◌==◌, List, filter, length, map, IsBitSet}
use Rattle.std.specs.List.{AllByRecursion}
use Rattle.hub_core.specs.Groups.{group_of, sizes_of}
use Rattle.hub_core.specs.declared.record.Move.{Move}
use Rattle.tp_attempts.specs.Attempts.{attempts_in}
use Rattle.gw_law.specs.Account.{Account, source_in}
use Rattle.gw_law.specs.Plan.{Receiving}
use Rattle.gw_law.specs.Pool.{AreNamed, Channel, PoolEnds, PoolLaw, moves_of}

-- a source channel: how it is configured, its attempts, and the records of its units
abbrev pub channel_in : Account → Receiving → Channel
channel_in a r = record { set = r.set; attempts = attempts_in r.set.functional (source_in a r).seen; records = (source_in a r).sessions }

-- the source channels whose path has the group's buffers
abbrev pub channels_of : Account → (group : ℕ) → List Channel
channels_of a group = map (channel_in a) (filter (λ (r : Receiving). r.set.group.0 == group) a.plan.receivers)

-- a move is of a buffer of the pool
abbrev pub IsOfPool : List (List ℕ) → Move → Type 0
IsOfPool groups move = group_of groups move.buf.0 < length groups

-- the moves of a group replay, and are those of its sessions: each session's buffer is taken and then freed, each take is a session's,
-- and at the end each buffer is free
pub record PoolOfGroup (a : Account) (group : ℕ) : Type 0 where
  pub law : PoolLaw a.plan.groups group (a.counts group) (a.frees group) (channels_of a group) (moves_of a.plan.groups group a.moves)
  pub ends : PoolEnds a.plan.groups group (a.frees group) (channels_of a group) (moves_of a.plan.groups group a.moves)
  pub named : AreNamed a.plan.groups (channels_of a group) (moves_of a.plan.groups group a.moves)
  pub whole : (buf : ℕ) → buf < length (sizes_of a.plan.groups group) → IsBitSet (a.frees group) buf

-- so for each group, and each move is one of a group
pub record PoolOf (a : Account) : Type 0 where
  pub each : (group : ℕ) → group < length a.plan.groups → PoolOfGroup a group
  pub there : AllByRecursion (IsOfPool a.plan.groups) a.moves
