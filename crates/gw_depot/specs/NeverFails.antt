-- What contracts see of a depot that never fails.
use Rattle.std.specs.Prelude.{[], Some, unwrap_or}
use Rattle.gw_depot.specs.declared.never_fails.NeverFails.{NeverFails}
use Rattle.gw_depot.specs.Files.{Files}
use Rattle.gw_depot.specs.MemFiles.{held}

-- what each name reads as: what was set, or the empty file
abbrev pub reads_as : NeverFails → Files
reads_as depot name = Some (unwrap_or (held depot.files name) [])
