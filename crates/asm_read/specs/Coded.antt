-- The code's instructions and operands, which borrow their names.
use Rattle.std.specs.Option.{option_map}
use Rattle.asm_item.specs.declared.model.Label.{Label}
use Rattle.asm_read.specs.declared.table.Name.{Name}
use Rattle.asm_read.specs.declared.table.Coded as code
use Rattle.asm_read.specs.declared.table.Placed as code_placed
use Rattle.asm_read.specs.declared.table.Valued as code_valued
use Rattle.asm_read.specs.declared.table.Paired as code_paired
use Rattle.asm_read.specs.declared.table.Pair as code_pair
use Rattle.asm_read.specs.declared.table.Pair.TheVariants as pairs
use Rattle.asm_read.specs.Table.{Coded, Placed, Valued, Pair, stored, loaded, given, Paired}

abbrev pub shown_name : Name → Label
shown_name n = record { field = n.field; name = n.name.now; add = n.add }

abbrev pub shown_coded : code.Coded → Coded
shown_coded c = record { ins = c.ins; label = option_map shown_name c.label }

abbrev pub shown_placed : code_placed.Placed → Placed
shown_placed p = record { operand = p.operand; label = option_map shown_name p.label }

abbrev pub shown_valued : code_valued.Valued → Valued
shown_valued v = record { value = v.value; label = option_map shown_name v.label }

abbrev pub shown_pair : code_pair.Pair → Pair
shown_pair (pairs.Stored r o) = stored r o
shown_pair (pairs.Loaded o r) = loaded o r
shown_pair (pairs.Given n o) = given n o

abbrev pub shown_paired : code_paired.Paired → Paired
shown_paired p = record { pair = shown_pair p.pair; label = option_map shown_name p.label }
