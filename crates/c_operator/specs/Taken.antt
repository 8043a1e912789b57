-- What a pointer takes.
use Rattle.std.specs.Prelude.{List, Bool, ◌&&◌, ◌||◌}
use Rattle.c_type.specs.Types.{CType, Tag, same_type, is_integer}
use Rattle.c_tree.specs.Constant.{is_zero}
use Rattle.c_tree.specs.TExpr.{TExpr, type_of}

-- its own type, or the constant 0
abbrev pub takes_pointer : List Tag → CType → TExpr → Bool
takes_pointer ts t w = same_type t (type_of w) || (is_integer (type_of w) && is_zero ts w)
