use Rattle.std.proofs.Common.{◌≡◌, ℕ, ◌<◌, Some}
use Rattle.std.specs.Prelude.{◌≢◌, slice_get}
use Rattle.gw_config.specs.Config.{PathEntry}
use Rattle.gw_setup.proofs.names.destination_named.Given as goal

abbrev pub invariant-loop-path : goal.invariant-loop-path
invariant-loop-path l = (place dest : ℕ) (path : PathEntry) → place < l.path → slice_get l.paths place ≡ Some path → slice_get path.to dest ≢ Some l.name
