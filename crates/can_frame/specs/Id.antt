-- Which identifiers a frame may have.
use Rattle.std.specs.Prelude.{Bool, nat_le}
use Rattle.can_frame.specs.declared.id.CanId.{CanId}
use Rattle.can_frame.specs.declared.id.CanId.TheVariants.{Std, Ext}

-- the number is in the range of its format: 11 bits, or 29 (ISO 11898-1, frame formats)
abbrev pub id_fits : CanId → Bool
id_fits (Std number) = nat_le number 0x7FF
id_fits (Ext number) = nat_le number 0x1FFF_FFFF
