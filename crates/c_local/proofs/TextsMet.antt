-- Texts that are met one behind the other.
use Rattle.std.proofs.Common.{◌≡◌, ℕ, List, [], ◌++◌, length, take, Option, Some, None, Vec, Box, Global, refl, ap, sym, ◌∙◌}
use Rattle.std.proofs.lemmas.List.{append_assoc, append-nil}
use Rattle.std.proofs.Math.Seq.{take-append_seam}
use Rattle.c_type.specs.Types.{CType}
use Rattle.c_tree.specs.declared.expr.Expr.{Expr as RustExpr, Call}
use Rattle.c_tree.specs.TreeDecl as ud
use Rattle.c_tree.specs.TreeExpr.{Expr}
use Rattle.c_rule.specs.RuleScope.{Env, met, past, past_option}
use Rattle.c_rule.specs.RuleTypes.{declared_type}
use Rattle.c_rule.specs.RuleDecls.{past_declr}
use Rattle.c_rule.specs.RuleTexts.{texts_in, texts_in_all}
use Rattle.c_tree.specs.TreeOf.{expr_of, exprs_from}
use Rattle.c_tree.proofs.Of.{expr_of-Call}

pub met_met : (xs bs : List (List ℕ)) (c : Env) → met bs (met xs c) ≡ met (xs ++ bs) c
met_met xs bs c = ap (λ ts. record c { texts = ts }) (append_assoc c.texts xs bs)

pub met_none : (c : Env) → met [] c ≡ c
met_none c = ap (λ ts. record c { texts = ts }) (append-nil c.texts)

abbrev texts_in_option : Option Expr → List (List ℕ)
texts_in_option None = []
texts_in_option (Some a) = texts_in a

-- the texts of a declarator's dimensions, those of the inner ones first
abbrev texts_in_declr : ud.Declr → List (List ℕ)
texts_in_declr (ud.pointer l d) = texts_in_declr d
texts_in_declr (ud.name l x) = []
texts_in_declr (ud.array l d a) = texts_in_declr d ++ texts_in_option a
texts_in_declr (ud.function l d xs) = texts_in_declr d

option_met : (a : Option Expr) (c : Env) → past_option a c ≡ met (texts_in_option a) c
option_met None c = sym (met_none c)
option_met (Some a) c = refl

-- behind a declarator its texts were met
declr_met : (d : ud.Declr) (c : Env) → past_declr d c ≡ met (texts_in_declr d) c
declr_met (ud.pointer l d) c = declr_met d c
declr_met (ud.name l x) c = sym (met_none c)
declr_met (ud.array l d a) c = ap (past_option a) (declr_met d c) ∙ option_met a (met (texts_in_declr d) c) ∙ met_met (texts_in_declr d) (texts_in_option a) c
declr_met (ud.function l d xs) c = declr_met d c

-- behind a declarator the same types are known
pub declared_behind : (c : Env) (d : ud.Declr) (t : CType) → declared_type (past_declr d c) t ≡ declared_type c t
declared_behind c d t = ap (λ e. declared_type e t) (declr_met d c)

-- a call's texts are those of its parts
pub call_met : (c c1 c2 : Env) (l : ℕ) (f : Box RustExpr Global) (es : Vec RustExpr Global) (e : RustExpr) → e ≡ Call l f es → c1 ≡ met (texts_in (expr_of f.value)) c →
    c2 ≡ met (texts_in_all (exprs_from es.items)) c1 → c2 ≡ met (texts_in (expr_of e)) c
call_met c c1 c2 l f es e is first rest =
    rest ∙ ap (met (texts_in_all (exprs_from es.items))) first ∙ met_met (texts_in (expr_of f.value)) (texts_in_all (exprs_from es.items)) c ∙
    ap (λ x. met (texts_in x) c) (sym (expr_of-Call l f es) ∙ ap expr_of (sym is))

-- texts that were met can be forgotten
forgotten : (bs : List (List ℕ)) (c : Env) → record (met bs c) { texts = take (length c.texts) (met bs c).texts } ≡ c
forgotten bs c = ap (λ ts. record c { texts = ts }) (take-append_seam c.texts bs)

-- the texts of a declarator and of an expression behind it are forgotten
pub forgotten_behind : (d : ud.Declr) (a : Expr) (c c1 c2 c3 : Env) (n : ℕ) → n ≡ length c.texts → c1 ≡ past_declr d c → c2 ≡ past a c1 → c3 ≡ record c2 { texts = take n c2.texts } → c3 ≡ c
forgotten_behind d a c c1 c2 c3 n en e1 e2 e3 =
    let before : c2 ≡ met (texts_in_declr d ++ texts_in a) c = e2 ∙ ap (past a) (e1 ∙ declr_met d c) ∙ met_met (texts_in_declr d) (texts_in a) c in
    e3 ∙ ap {A = Env} (λ y. record y { texts = take n y.texts }) before ∙
    ap {A = ℕ} (λ k. record (met (texts_in_declr d ++ texts_in a) c) { texts = take k (met (texts_in_declr d ++ texts_in a) c).texts }) en ∙ forgotten (texts_in_declr d ++ texts_in a) c

-- the texts of a declarator are forgotten
pub forgotten_declr : (d : ud.Declr) (c c1 c2 : Env) (n : ℕ) → n ≡ length c.texts → c1 ≡ past_declr d c → c2 ≡ record c1 { texts = take n c1.texts } → c2 ≡ c
forgotten_declr d c c1 c2 n en e1 e2 =
    e2 ∙ ap {A = Env} (λ y. record y { texts = take n y.texts }) (e1 ∙ declr_met d c) ∙
    ap {A = ℕ} (λ k. record (met (texts_in_declr d) c) { texts = take k (met (texts_in_declr d) c).texts }) en ∙ forgotten (texts_in_declr d) c
