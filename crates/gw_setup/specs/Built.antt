-- The configurations that are built (this project's own).
use Rattle.std.specs.Prelude.{◌≡◌, []}
use Rattle.gw_config.specs.Config.{Configuration}
use Rattle.gw_config.specs.declared.words.Mode.TheVariants.{Serial}

-- the workers run one after another, and there is no interface path and no cancellation; all else is free
pub record IsBuilt (config : Configuration) : Type 0 where
  pub mode : config.mode ≡ Serial
  pub interface : config.interface ≡ []
  pub cancel : config.cancel ≡ []
