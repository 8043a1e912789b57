-- The numbers of words, marks and operators are their places in the lists of the language.
use Rattle.std.specs.Prelude.{◌≡◌, ℕ, List, [], ◌∷◌, map, codes}
use Rattle.c_type.specs.Names.{at_or}
use Rattle.c_type.specs.declared.TagKind.TheVariants as g
use Rattle.c_lex.specs.Tokens.{words, marks}
use Rattle.c_tree.specs.declared.decl.Storage.TheVariants as c
use Rattle.c_tree.specs.declared.expr.AssignOp.TheVariants as a
use Rattle.c_tree.specs.declared.expr.BinaryOp.TheVariants as b
use Rattle.c_tree.specs.declared.expr.UnaryOp.TheVariants as u
use Rattle.c_tree.specs.declared.expr.StepOp.TheVariants as s
use Rattle.c_grammar.specs.Words as w

-- a word or a mark by its number
abbrev pub word_at : ℕ → List ℕ
word_at k = at_or [] words k

abbrev pub mark_at : ℕ → List ℕ
mark_at k = at_or [] marks k

pub record WordsAreListed : Type 0 where
  pub words_are : map word_at (w.break_word ∷ w.case_word ∷ w.continue_word ∷ w.default_word ∷ w.do_word ∷ w.else_word ∷ w.for_word ∷ w.if_word ∷ w.register_word ∷ w.return_word ∷ w.sizeof_word ∷ w.switch_word ∷ w.typedef_word ∷ w.while_word ∷ [])
      ≡ codes "break" ∷ codes "case" ∷ codes "continue" ∷ codes "default" ∷ codes "do" ∷ codes "else" ∷ codes "for" ∷ codes "if" ∷ codes "register" ∷ codes "return" ∷ codes "sizeof" ∷ codes "switch" ∷ codes "typedef" ∷ codes "while" ∷ []
  pub storage_words : map (λ k. word_at (w.storage_word k)) (c.Auto ∷ c.Register ∷ c.Static ∷ c.Extern ∷ [])
      ≡ codes "auto" ∷ codes "register" ∷ codes "static" ∷ codes "extern" ∷ []
  pub tag_words : map (λ k. word_at (w.tag_word k)) (g.Struct ∷ g.Union ∷ g.Enum ∷ [])
      ≡ codes "struct" ∷ codes "union" ∷ codes "enum" ∷ []
  pub type_words : map (λ k. word_at (w.type_word k)) (w.Unsigned ∷ w.Char ∷ w.Short ∷ w.Long ∷ w.Int ∷ w.Void ∷ [])
      ≡ codes "unsigned" ∷ codes "char" ∷ codes "short" ∷ codes "long" ∷ codes "int" ∷ codes "void" ∷ []
  pub marks_are : map mark_at (w.arrow_mark ∷ w.open_round ∷ w.close_round ∷ w.open_square ∷ w.close_square ∷ w.open_brace ∷ w.close_brace ∷ w.dot_mark ∷ w.comma_mark ∷ w.semicolon ∷ w.colon ∷ w.question ∷ w.equals ∷ w.star ∷ [])
      ≡ codes "->" ∷ codes "(" ∷ codes ")" ∷ codes "[" ∷ codes "]" ∷ codes "{" ∷ codes "}" ∷ codes "." ∷ codes "," ∷ codes ";" ∷ codes ":" ∷ codes "?" ∷ codes "=" ∷ codes "*" ∷ []
  pub assign_marks : map (λ k. mark_at (w.assign_mark k)) (a.Set ∷ a.Add ∷ a.Sub ∷ a.Mul ∷ a.Div ∷ a.Rem ∷ a.And ∷ a.Or ∷ a.Xor ∷ a.Shl ∷ a.Shr ∷ [])
      ≡ codes "=" ∷ codes "+=" ∷ codes "-=" ∷ codes "*=" ∷ codes "/=" ∷ codes "%=" ∷ codes "&=" ∷ codes "|=" ∷ codes "^=" ∷ codes "<<=" ∷ codes ">>=" ∷ []
  pub binary_marks : map (λ k. mark_at (w.binary_mark k)) (b.Either ∷ b.Both ∷ b.Or ∷ b.Xor ∷ b.And ∷ b.Eq ∷ b.Ne ∷ b.Lt ∷ b.Gt ∷ b.Le ∷ b.Ge ∷ b.Shl ∷ b.Shr ∷ b.Add ∷ b.Sub ∷ b.Mul ∷ b.Div ∷ b.Rem ∷ [])
      ≡ codes "||" ∷ codes "&&" ∷ codes "|" ∷ codes "^" ∷ codes "&" ∷ codes "==" ∷ codes "!=" ∷ codes "<" ∷ codes ">" ∷ codes "<=" ∷ codes ">=" ∷ codes "<<" ∷ codes ">>" ∷ codes "+" ∷ codes "-" ∷ codes "*" ∷ codes "/" ∷ codes "%" ∷ []
  pub unary_marks : map (λ k. mark_at (w.unary_mark k)) (u.Deref ∷ u.Address ∷ u.Neg ∷ u.Not ∷ u.Flip ∷ u.Inc ∷ u.Dec ∷ [])
      ≡ codes "*" ∷ codes "&" ∷ codes "-" ∷ codes "!" ∷ codes "~" ∷ codes "++" ∷ codes "--" ∷ []
  pub step_marks : map (λ k. mark_at (w.step_mark k)) (s.Inc ∷ s.Dec ∷ [])
      ≡ codes "++" ∷ codes "--" ∷ []
