-- A list of declarations is judged by its parts in order.
use Rattle.std.proofs.Common.{◌≡◌, ℕ, ◌≤◌, List, [], ◌∷◌, Option, drop, length, map, ap, sym, ◌∙◌}
use Rattle.std.proofs.lemmas.List.{drop_all}
use Rattle.c_type.specs.Types.{CType}
use Rattle.c_tree.specs.declared.decl.Storage.{Storage}
use Rattle.c_tree.specs.declared.decl.Item.{Item}
use Rattle.c_tree.specs.declared.decl.LocalDecl.{LocalDecl}
use Rattle.c_tree.specs.TreeDecl as ud
use Rattle.c_tree.specs.TStmt as st
use Rattle.c_tree.specs.TreeOf.{item_of, local_of}
use Rattle.c_rule.specs.RuleScope.{onward, Env}
use Rattle.c_rule.specs.RuleTypes.{is_function, spec_or_int}
use Rattle.c_rule.specs.RuleDecls.{past_declr}
use Rattle.c_rule.specs.RuleStmts.{missing, declr_line}
use Rattle.c_rule.specs.Judging.{Behind, behind, judged_declr, judged_local, judged_locals, judged_decls}
use Rattle.c_local.specs.Here.{judged_item_here, judged_decl_here}
use Rattle.c_local.proofs.Lists.{front, in_front, twice, thrice}

first_item : (c : Env) (s : Option Storage) (base : CType) (i : ud.Item) (is : List ud.Item) →
    judged_locals c s base (i ∷ is) ≡ front in_front (judged_item_here c s base i) (λ d. judged_locals d s base is)
first_item c s base i is =
    sym (twice {B = Behind st.Local} {C = Behind (List st.Local)} (judged_declr c (missing s i.init) base i.declr) (λ d. judged_local (is_function d.ty) s (past_declr i.declr c) (declr_line i.declr) d i.init)
    (λ x. onward (judged_locals x.env s base is) (λ r. behind (x.tree ∷ r.tree) r.env)))

pub item_row : (c : Env) (s : Option Storage) (base : CType) (i : Item) (is more : List Item) → is ≡ i ∷ more →
    judged_locals c s base (map item_of is) ≡ front in_front (judged_item_here c s base (item_of i)) (λ d. judged_locals d s base (map item_of more))
item_row c s base i is more e = ap (λ l. judged_locals c s base (map item_of l)) e ∙ first_item c s base (item_of i) (map item_of more)

pub items_end : (c : Env) (s : Option Storage) (base : CType) (is : List Item) (k : ℕ) → length is ≤ k → judged_locals c s base (map item_of (drop k is)) ≡ behind [] c
items_end c s base is k le = ap (λ l. judged_locals c s base (map item_of l)) (drop_all k is le)

first_decl : (c : Env) (d : ud.LocalDecl) (ds : List ud.LocalDecl) → judged_decls c (d ∷ ds) ≡ front in_front (judged_decl_here c d) (λ e. judged_decls e ds)
first_decl c d ds =
    sym (thrice {B = Behind (List st.Local)} {C = Behind st.LocalDecl} {D = Behind (List st.LocalDecl)} (spec_or_int c d.specs.types) (λ base. judged_locals c d.specs.storage base d.items) (λ base ls. record { tree = record { items = ls.tree }; env = ls.env })
    (λ x. onward (judged_decls x.env ds) (λ r. behind (x.tree ∷ r.tree) r.env)))

pub decl_row : (c : Env) (d : LocalDecl) (ds more : List LocalDecl) → ds ≡ d ∷ more →
    judged_decls c (map local_of ds) ≡ front in_front (judged_decl_here c (local_of d)) (λ e. judged_decls e (map local_of more))
decl_row c d ds more e = ap (λ l. judged_decls c (map local_of l)) e ∙ first_decl c (local_of d) (map local_of more)

pub decls_end : (c : Env) (ds : List LocalDecl) (k : ℕ) → length ds ≤ k → judged_decls c (map local_of (drop k ds)) ≡ behind [] c
decls_end c ds k le = ap (λ l. judged_decls c (map local_of l)) (drop_all k ds le)
