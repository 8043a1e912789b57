-- The declarators of a block: where an automatic object's initialiser leaves it, the types that the file gave before, and
-- the dimensions that initialisers give.
use Rattle.std.proofs.Common.{◌≡◌, ℕ, suc, ◌<◌, List, [], ◌∷◌, length, Some, None, refl, ap, ◌∙◌, Vec, Global, arith}
use Rattle.c_type.specs.Names.{or_default}
use Rattle.c_type.specs.Types.{CType}
use Rattle.c_tree.specs.declared.decl.Init.{Init, Group}
use Rattle.c_tree.specs.TreeDecl as ud
use Rattle.c_tree.specs.TExpr as e
use Rattle.c_tree.specs.TreeOf.{init_of, inits_from}
use Rattle.c_tree.proofs.Of.{init_of-Group}
use Rattle.c_rule.specs.RuleScope.{Env, Meaning, Alias, Constant, Thing, Function, started}
use Rattle.c_rule.specs.RuleTypes.{joined}
use Rattle.c_rule.specs.RuleDecls.{given_by, count_inits}
use Rattle.c_rule.specs.RuleStmts.{past_init, with_earlier}
use Rattle.c_local.specs.Here.{external_type}

-- an initialiser's texts and the numbers behind it are counted in either order
pub init_passed : (a : ud.Init) (c : Env) → started 1 (record (past_init a c) { autos = suc (past_init a c).autos }) ≡ past_init a (started 1 (record c { autos = suc c.autos }))
init_passed (ud.single a) c = refl
init_passed (ud.group l is) c = refl

pub earlier_external : (m : Meaning) (a t : CType) → external_type m ≡ Some a → with_earlier (Some m) t ≡ or_default t (joined a t)
earlier_external (Alias s) a t h = absurd (cc)
earlier_external (Constant n) a t h = absurd (cc)
earlier_external (Thing (e.Local k) s) a t h = absurd (cc)
earlier_external (Thing (e.Param k) s) a t h = absurd (cc)
earlier_external (Thing (e.Static k) s) a t h = absurd (cc)
earlier_external (Thing (e.Ext x) s) a t h = let q : s ≡ a = cc in ap (λ z. or_default t (joined z t)) q
earlier_external (Thing (e.Func k) s) a t h = absurd (cc)
earlier_external (Thing (e.Outer x) s) a t h = absurd (cc)
earlier_external (Thing (e.Const n) s) a t h = absurd (cc)
earlier_external (Function b r s) a t h = absurd (cc)

pub earlier_other : (m : Meaning) (t : CType) → external_type m ≡ None → with_earlier (Some m) t ≡ t
earlier_other (Alias s) t h = refl
earlier_other (Constant n) t h = refl
earlier_other (Thing (e.Local k) s) t h = refl
earlier_other (Thing (e.Param k) s) t h = refl
earlier_other (Thing (e.Static k) s) t h = refl
earlier_other (Thing (e.Ext x) s) t h = absurd (cc)
earlier_other (Thing (e.Func k) s) t h = refl
earlier_other (Thing (e.Outer x) s) t h = refl
earlier_other (Thing (e.Const n) s) t h = refl
earlier_other (Function b r s) t h = refl

count_is : (is : List Init) → count_inits (inits_from is) ≡ length is
count_is [] = refl
count_is (i ∷ is) = ap suc (count_is is)

none_in : (l : ℕ) (is : List Init) → length is ≡ 0 → given_by (Some (ud.group l (inits_from is))) ≡ None
none_in l [] h = refl
none_in l (i ∷ is) h = absurd (omega arith)

some_in : (l : ℕ) (is : List Init) → 0 < length is → given_by (Some (ud.group l (inits_from is))) ≡ Some (length is)
some_in l [] h = absurd (omega arith)
some_in l (i ∷ is) h = ap (λ n. Some (suc n)) (count_is is)

pub none_given : (i : Init) (l : ℕ) (is : Vec Init Global) → i ≡ Group l is → length is.items ≡ 0 → given_by (Some (init_of i)) ≡ None
none_given i l is q h = ap (λ z. given_by (Some (init_of z))) q ∙ ap (λ z. given_by (Some z)) (init_of-Group l is) ∙ none_in l is.items h

pub some_given : (i : Init) (l : ℕ) (is : Vec Init Global) → i ≡ Group l is → 0 < length is.items → given_by (Some (init_of i)) ≡ Some (length is.items)
some_given i l is q h = ap (λ z. given_by (Some (init_of z))) q ∙ ap (λ z. given_by (Some z)) (init_of-Group l is) ∙ some_in l is.items h
