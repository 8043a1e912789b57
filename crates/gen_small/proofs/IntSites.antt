-- Functions whose automatic objects are of type int have the same frame.
use Rattle.std.proofs.Common.{◌≡◌, ℕ, zero, suc, ◌+◌, ◌*◌, ◌<◌, List, [], ◌++◌, length, refl, sym, ap, ◌∙◌, subst, arith, append-nil, append_assoc}
use Rattle.std.specs.List.{flat_map}
use Rattle.c_tree.specs.Bodies.{Auto, autos_local, autos}
use Rattle.gen_small.specs.declared.code_list.IntFrame.{IntFrame}
use Rattle.gen_small.specs.Code.{inside, locals_size, local_depth, temp_depth}
use Rattle.gen_small.specs.Mains.{AllInt}
use Rattle.gen_small.specs.Forms.{AreThere, IsForm}
use Rattle.gen_small.specs.Items.{Item}
use Rattle.c_tree.specs.TExpr.{TExpr}
use Rattle.gen_small.specs.Listed.{int_locals, int_site}
use Rattle.gen_small.proofs.Entering.{rounded_ints, rounded_take}

-- the objects of the declarators
abbrev made : ℕ → ℕ → List Auto
made i n = flat_map autos_local (int_locals i n ++ [])

made_ints : (n i : ℕ) → AllInt (made i n)
made_ints zero i = tt
made_ints (suc n) i = (refl, made_ints n (suc i))

made_count : (n i : ℕ) → length (made i n) ≡ n
made_count zero i = refl
made_count (suc n) i = let e = made_count n (suc i) in omega arith

pub site_ints : (t : IntFrame) → AllInt (autos (int_site t).body.func)
unfolding int_site
site_ints t = subst AllInt (sym (append-nil (made 0 t.objects))) (made_ints t.objects 0)

pub site_count : (t : IntFrame) → length (autos (int_site t).body.func) ≡ t.objects
unfolding int_site
site_count t = ap length (append-nil (made 0 t.objects)) ∙ made_count t.objects 0

pub object_depth : (t : IntFrame) (i : ℕ) → i < t.objects → local_depth (int_site t) i ≡ 4 * (i + 1)
object_depth t i lt = rounded_take (inside (int_site t)) (autos (int_site t).body.func) i (site_ints t) (let e = site_count t in omega arith) ∙ omega arith

pub site_size : (t : IntFrame) → locals_size (int_site t) ≡ 4 * t.objects
site_size t = rounded_ints (inside (int_site t)) (autos (int_site t).body.func) (site_ints t) ∙ ap (λ n. 4 * n) (site_count t)

pub temp_at : (t : IntFrame) (d : ℕ) → temp_depth (int_site t) d ≡ 4 * t.objects + 4 * (d + 1)
temp_at t d = let e = site_size t in omega arith

pub site_fun : (t : IntFrame) → (int_site t).fun ≡ t.fun
unfolding int_site
site_fun t = refl

-- what holds in a frame holds in the same one
pub there_kept : (t u : IntFrame) (e : TExpr) → t ≡ u → AreThere u.objects e → AreThere t.objects e
there_kept t u e same h = subst (λ (f : IntFrame). AreThere f.objects e) (sym same) h

pub form_kept : (t u : IntFrame) (e : TExpr) → t ≡ u → IsForm u.objects e → IsForm t.objects e
form_kept t u e same h = subst (λ (f : IntFrame). IsForm f.objects e) (sym same) h

-- code behind other code of the same function
pub then_added : (t u : IntFrame) (code : IntFrame → List Item) (first old one : List Item) → t ≡ u → one ≡ old ++ first → one ++ code t ≡ old ++ (first ++ code u)
then_added t u code first old one same e = ap (λ z. one ++ code z) same ∙ ap (λ z. z ++ code u) e ∙ append_assoc old first (code u)
