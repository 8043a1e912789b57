-- The code's statements, whose lists are vectors.
use Rattle.std.specs.Option.{option_map}
use Rattle.asm_item.specs.Groups as groups
use Rattle.asm_read.specs.declared.stmts.Part.{Part}
use Rattle.asm_read.specs.declared.stmts.Part.TheVariants as parts
use Rattle.asm_read.specs.declared.stmts.Stmt.{Stmt}
use Rattle.asm_read.specs.declared.stmts.Stmt.TheVariants as stmts
use Rattle.asm_read.specs.declared.stmt_list.Placed.{Placed}
use Rattle.asm_read.specs.Stmts as spec
use Rattle.asm_read.specs.Reading.{At}

abbrev pub shown_part : Part → groups.Part
shown_part (parts.Val v) = groups.val v
shown_part (parts.Scl z) = groups.scl z
shown_part (parts.Ty n) = groups.ty n
shown_part (parts.Tag k) = groups.tag k
shown_part (parts.Line n) = groups.line n
shown_part (parts.Size n) = groups.size n
shown_part (parts.Dims ns) = groups.dims ns.items

abbrev pub shown_stmt : Stmt → spec.Stmt
shown_stmt (stmts.Item i) = spec.item i
shown_stmt (stmts.Begin k) = spec.begin k
shown_stmt (stmts.Part p) = spec.part (shown_part p)
shown_stmt stmts.End = spec.end

abbrev pub shown_at : Placed → At
shown_at p = record { line = p.line; stmt = spec.or_wrong (option_map shown_stmt p.stmt) }
