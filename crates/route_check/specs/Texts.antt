-- What is said of a conflict (this project's own).
use Rattle.std.specs.Prelude.{ℕ, List, ◌++◌, decimal, codes}
use Rattle.route_check.specs.declared.conflict.ConflictKind.{ConflictKind}
use Rattle.route_check.specs.declared.conflict.ConflictKind.TheVariants.{UnknownName, SameAddress, SharedSender, SelfRoute, MixedLength, FunctionalSend, IfOverlap, NoBuffer, BadCancel}
use Rattle.route_check.specs.declared.conflict.Place.{Place}
use Rattle.route_check.specs.declared.conflict.Place.TheVariants.{Bus, Channel, Path, Interface, Cancel}
use Rattle.route_check.specs.declared.conflict.Conflict.{Conflict}

-- the word for a kind
abbrev pub kind_text : ConflictKind → List ℕ
kind_text UnknownName = codes "unknown-name"
kind_text SameAddress = codes "same-address"
kind_text SharedSender = codes "shared-sender"
kind_text SelfRoute = codes "self-route"
kind_text MixedLength = codes "mixed-length"
kind_text FunctionalSend = codes "functional-send"
kind_text IfOverlap = codes "if-overlap"
kind_text NoBuffer = codes "no-buffer"
kind_text BadCancel = codes "bad-cancel"

-- the word for a table of entries
abbrev pub place_text : Place → List ℕ
place_text Bus = codes "bus"
place_text Channel = codes "channel"
place_text Path = codes "path"
place_text Interface = codes "interface"
place_text Cancel = codes "cancel"

-- the kind, and each place with its number
abbrev pub conflict_text : Conflict → List ℕ
conflict_text conflict =
    kind_text conflict.kind ++ codes " " ++ place_text conflict.place ++ codes " " ++ decimal conflict.first ++ codes " " ++ place_text conflict.other ++ codes " " ++ decimal conflict.second
