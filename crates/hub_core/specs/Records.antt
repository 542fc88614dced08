-- The records of sessions and destinations, where a definition names them.
use Rattle.std.specs.Prelude.{None}
use Rattle.hub_core.specs.declared.record.SessionRecord.{SessionRecord}
use Rattle.hub_core.specs.declared.record.SessionResult.TheVariants.{Whole}

-- the record that a list of fixed size is filled up with
abbrev pub empty_record : SessionRecord
empty_record = record { chan = record { 0 = 0 }; n = 0; len = 0; begin = record { 0 = 0 }; bytes = 0; end = record { 0 = 0 }; opened = None; result = Whole }
