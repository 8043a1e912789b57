-- The tags of a body, from the lists of its parts.
use Rattle.std.proofs.Common.{◌≡◌, ℕ, List, [], ◌∷◌, ◌++◌, Option, ap, sym, ◌∙◌, refl, Vec, Global}
use Rattle.std.proofs.lemmas.List.{append_assoc}
use mathlib.Core.Former.{Count}
use Rattle.c_type.specs.Names.{Name, or_default}
use Rattle.c_type.specs.declared.TagKind.{TagKind}
use Rattle.c_type.specs.declared.TagKind.TheVariants as k
use Rattle.c_tree.specs.declared.decl.Mem.{Mem}
use Rattle.c_tree.specs.declared.decl.TagDef as g
use Rattle.c_tree.specs.declared.decl.TagDef.{TagDef, Struct, Union}
use Rattle.c_tree.specs.TreeDecl as td
use Rattle.c_tree.specs.TreeOf.{declr_of, types_of, def_of, mems_of, mems_from}
use Rattle.c_rule.specs.RuleScope.{TagHead}
use Rattle.c_rule.specs.RuleNames.{tags_in_def, tags_in_mems}
use Rattle.c_tree.proofs.Of.{def_of-Struct}
use Rattle.std.specs.Prelude.{map}

mems_are : (n : _) (row : g.TheBlock.Row_of-Mem n) → mems_of row ≡ mems_from (g.items-the_row-Mem n row)
mems_are n g.TheBlock.end_of-Mem = refl
mems_are n (g.TheBlock.more_of-Mem l y ds ms) = ap (td.more_mems (td.mem l (types_of y) (map declr_of ds.items))) (mems_are _ ms)

abbrev mems_in : TagDef → (n : Count) × g.TheBlock.Row_of-Mem n
mems_in (g.TheBlock.Union' _ _ _ row) = (_, row)
mems_in _ = (_, g.TheBlock.end_of-Mem)

def_of-Union : (l : ℕ) (x : Option Name) (ms : Vec Mem Global) → def_of (Union l x ms) ≡ td.union l x (mems_from ms.items)
def_of-Union l x ms =
    let row = mems_in (Union l x ms) in
    ap (td.union l x) (mems_are row.0 row.1 ∙ ap mems_from (g.items_hidden-the_row-Mem-0 ms))

abbrev own : Option Name → TagKind → TagHead
own x kind = record { name = or_default [] x; kind = kind }

joined : (before mid after more : List TagHead) (h : TagHead) → mid ≡ before ++ more → after ≡ mid ++ h ∷ [] → after ≡ before ++ (more ++ h ∷ [])
joined before mid after more h e f = f ∙ ap (λ l. l ++ h ∷ []) e ∙ append_assoc before more (h ∷ [])

pub struct_adds : (before mid after : List TagHead) (l : ℕ) (x : Option Name) (ms : Vec Mem Global) (d : TagDef) → d ≡ Struct l x ms → mid ≡ before ++ tags_in_mems (mems_from ms.items) →
    after ≡ mid ++ own x k.Struct ∷ [] → after ≡ before ++ tags_in_def (def_of d)
struct_adds before mid after l x ms d is e f =
    joined before mid after (tags_in_mems (mems_from ms.items)) (own x k.Struct) e f ∙ ap (λ y. before ++ tags_in_def y) (sym (def_of-Struct l x ms) ∙ ap def_of (sym is))

pub union_adds : (before mid after : List TagHead) (l : ℕ) (x : Option Name) (ms : Vec Mem Global) (d : TagDef) → d ≡ Union l x ms → mid ≡ before ++ tags_in_mems (mems_from ms.items) →
    after ≡ mid ++ own x k.Union ∷ [] → after ≡ before ++ tags_in_def (def_of d)
union_adds before mid after l x ms d is e f =
    joined before mid after (tags_in_mems (mems_from ms.items)) (own x k.Union) e f ∙ ap (λ y. before ++ tags_in_def y) (sym (def_of-Union l x ms) ∙ ap def_of (sym is))
