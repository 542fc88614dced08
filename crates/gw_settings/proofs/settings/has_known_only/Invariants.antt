use Rattle.std.proofs.Common.{◌≡◌, string_bytes}
use Rattle.std.specs.BTreeMap.{keys}
use Rattle.std.specs.List.{list_all}
use Rattle.gw_settings.specs.Readings.{is_listed}
use Rattle.gw_settings.proofs.settings.has_known_only.Given as goal

-- the names so far are listed, so the rest decides
abbrev pub invariant-loop-name : goal.invariant-loop-name
invariant-loop-name l = list_all (λ name. is_listed l.keys (string_bytes name)) l.name-iterator ≡ list_all (λ name. is_listed l.keys (string_bytes name)) (keys l.members)
