-- The string texts of an expression, each of which is an object.
use Rattle.std.specs.Prelude.{ℕ, List, [], ◌∷◌, ◌++◌}
use Rattle.c_tree.specs.TreeExpr.{Expr, Exprs, comma, assign, choice, binary, unary, size_of, size_of_type, cast, index, call, member, arrow, post, name, int, chr, text, no_exprs, more_exprs}

-- the bytes of each text with its zero byte, in textual order; the operand of `sizeof` counts too
abbrev mutual
  pub texts_in : Expr → List (List ℕ)
  texts_in (comma l a b) = texts_in a ++ texts_in b
  texts_in (assign l op a b) = texts_in a ++ texts_in b
  texts_in (choice l a b c) = texts_in a ++ (texts_in b ++ texts_in c)
  texts_in (binary l op a b) = texts_in a ++ texts_in b
  texts_in (unary l op a) = texts_in a
  texts_in (size_of l a) = texts_in a
  texts_in (size_of_type l y) = []
  texts_in (cast l y a) = texts_in a
  texts_in (index l a i) = texts_in a ++ texts_in i
  texts_in (call l f es) = texts_in f ++ texts_in_all es
  texts_in (member l a x) = texts_in a
  texts_in (arrow l a x) = texts_in a
  texts_in (post l op a) = texts_in a
  texts_in (name l x) = []
  texts_in (int l n long) = []
  texts_in (chr l n) = []
  texts_in (text l bs) = (bs ++ 0 ∷ []) ∷ []

  pub texts_in_all : Exprs → List (List ℕ)
  texts_in_all no_exprs = []
  texts_in_all (more_exprs e es) = texts_in e ++ texts_in_all es
