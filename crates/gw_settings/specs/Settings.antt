-- What settings show.
use Rattle.toml.specs.Data.{Data}
use Rattle.toml.specs.View.{view}
use Rattle.gw_settings.specs.declared.settings.Settings.{Settings}

-- the tree of tables that the settings are
abbrev pub tree : Settings → Data
tree settings = view settings.root
