-- What stays as it was behind declarators and expressions, whose texts are met.
use Rattle.std.proofs.Common.{◌≡◌, Option, Some, None, refl, ◌∙◌}
use Rattle.c_tree.specs.TreeDecl as ud
use Rattle.c_tree.specs.TreeExpr.{Expr}
use Rattle.c_rule.specs.RuleScope.{Env, past_option}
use Rattle.c_rule.specs.RuleDecls.{past_declr}

pub file_behind_option : (a : Option Expr) (c : Env) → (past_option a c).file ≡ c.file
file_behind_option None c = refl
file_behind_option (Some a) c = refl

tags_behind_option : (a : Option Expr) (c : Env) → (past_option a c).tags ≡ c.tags
tags_behind_option None c = refl
tags_behind_option (Some a) c = refl

pub file_behind : (d : ud.Declr) (c : Env) → (past_declr d c).file ≡ c.file
file_behind (ud.pointer l d) c = file_behind d c
file_behind (ud.name l x) c = refl
file_behind (ud.array l d a) c = file_behind_option a (past_declr d c) ∙ file_behind d c
file_behind (ud.function l d xs) c = file_behind d c

pub tags_behind : (d : ud.Declr) (c : Env) → (past_declr d c).tags ≡ c.tags
tags_behind (ud.pointer l d) c = tags_behind d c
tags_behind (ud.name l x) c = refl
tags_behind (ud.array l d a) c = tags_behind_option a (past_declr d c) ∙ tags_behind d c
tags_behind (ud.function l d xs) c = tags_behind d c
