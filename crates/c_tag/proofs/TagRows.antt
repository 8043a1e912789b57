-- A list of members or of enumerators is judged by its first part and those behind it.
use Rattle.std.proofs.Common.{◌≡◌, ℕ, List, ◌∷◌, map, Option, Some, Bool, true, false, refl, sym}
use Rattle.c_type.specs.Types.{CType}
use Rattle.c_tree.specs.declared.decl.Declr.{Declr}
use Rattle.c_tree.specs.declared.decl.En.{En}
use Rattle.c_tree.specs.declared.decl.Mem.{Mem}
use Rattle.c_tree.specs.TreeOf.{declr_of, en_of, mem_of, mems_from, types_of}
use Rattle.c_tree.specs.TStmt as st
use Rattle.c_tree.specs.TUnit as t
use Rattle.c_rule.specs.RuleScope.{Judged, Is, Fails, onward, provided, Env, Constant, past_option}
use Rattle.c_rule.specs.RuleDecls.{past_declr}
use Rattle.c_rule.specs.RuleStmts.{is_free}
use Rattle.c_rule.specs.RuleTags.{in_file}
use Rattle.c_rule.specs.Judging.{Behind, behind}
use Rattle.c_rule.specs.JudgingUnit as j
use Rattle.c_local.proofs.Lists.{front, in_front, given, thrice}
use Rattle.c_tag.specs.TagParts.{MemPart, put, judged_mem, judged_member_here, judged_enumerator_here}

pub given_if : {B C D : Type 0} (n : ℕ) (j : Judged B) (b : B → Bool) (g : B → C) (h : C → Judged D) →
    onward (onward j (λ x. provided n (b x) (Is (g x)))) h ≡ onward j (λ x. provided n (b x) (h (g x)))
given_if n (Is x) b g h = by (b x)
  where
    by : (y : Bool) → onward (provided n y (Is (g x))) h ≡ provided n y (h (g x))
    by true = refl
    by false = refl
given_if n (Fails k) b g h = refl

pub member_row : (base : CType) (c : Env) (d : Declr) (ds : List Declr) →
    j.judged_members c base (map declr_of (d ∷ ds)) ≡ front in_front (judged_member_here c base (declr_of d)) (λ e. j.judged_members e base (map declr_of ds))
member_row base c d ds =
    sym (given {C = Behind st.Declr} {D = Behind (List st.Declr)} (j.judged_member c base (declr_of d)) (λ y. record { tree = y; env = past_declr (declr_of d) c })
    (λ y. onward (j.judged_members y.env base (map declr_of ds)) (λ r. behind (y.tree ∷ r.tree) r.env)))

pub enumerator_row : (c : Env) (before : Option ℕ) (x : En) (xs : List En) →
    j.judged_enumerators c before (map en_of (x ∷ xs)) ≡
    onward (judged_enumerator_here c before (en_of x)) (λ z. onward (j.judged_enumerators z.env (Some z.tree.value) (map en_of xs)) (λ r. behind (z.tree ∷ r.tree) r.env))
enumerator_row c before x xs =
    sym (given_if {C = Behind t.Enumerator} {D = Behind (List t.Enumerator)} 1 (j.judged_enumerator c before (en_of x).name (en_of x).value) (λ y. is_free (en_of x).name c.file)
    (λ y. record { tree = y; env = in_file (record { name = (en_of x).name; meaning = Constant y.value }) (past_option (en_of x).value c) })
    (λ z. onward (j.judged_enumerators z.env (Some z.tree.value) (map en_of xs)) (λ r. behind (z.tree ∷ r.tree) r.env)))

pub mem_row : (c : Env) (m : Mem) (ms : List Mem) → j.judged_mems c (mems_from (m ∷ ms)) ≡ front put (judged_mem c (mem_of m)) (λ e. j.judged_mems e (mems_from ms))
mem_row c m ms =
    sym (thrice {B = Behind (List st.Declr)} {C = Behind MemPart} {D = Behind j.Body} (j.judged_types c (types_of m.types))
    (λ s. j.judged_members s.env s.tree.base (map declr_of m.declrs.items)) (λ s xs. record { tree = record { spec = s.tree.spec; declrs = xs.tree }; env = xs.env })
    (λ y. onward (j.judged_mems y.env (mems_from ms)) (λ r. behind (put y.tree r.tree) r.env)))
