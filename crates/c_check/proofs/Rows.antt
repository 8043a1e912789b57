-- A list of parts is judged by its first part and those behind it.
use Rattle.std.proofs.Common.{◌≡◌, List, ◌∷◌, map, Option, refl, sym}
use Rattle.c_type.specs.Names.{Name}
use Rattle.c_type.specs.Types.{CType}
use Rattle.c_tree.specs.declared.decl.Storage.{Storage}
use Rattle.c_tree.specs.declared.decl.Declr.{Declr}
use Rattle.c_tree.specs.declared.decl.Item.{Item}
use Rattle.c_tree.specs.declared.decl.ParDecl.{ParDecl}
use Rattle.c_tree.specs.declared.unit.Ext.{Ext}
use Rattle.c_tree.specs.TreeOf.{declr_of, ext_of, item_of, par_of}
use Rattle.c_tree.specs.TStmt as st
use Rattle.c_tree.specs.TUnit as t
use Rattle.c_rule.specs.RuleScope.{onward, Env, Alias}
use Rattle.c_rule.specs.RuleTypes.{is_function}
use Rattle.c_rule.specs.RuleDecls.{past_declr}
use Rattle.c_rule.specs.RuleStmts.{is_free, missing}
use Rattle.c_rule.specs.RuleTags.{in_file}
use Rattle.c_rule.specs.Judging.{Behind, behind, judged_declr}
use Rattle.c_rule.specs.JudgingUnit as j
use Rattle.c_local.proofs.Lists.{front, in_front, given, twice, thrice}
use Rattle.c_tag.proofs.TagRows.{given_if}
use Rattle.c_check.specs.FileParts.{judged_alias_here, judged_item_here}
use Rattle.c_check.specs.Parameters.{judged_parameter_here, judged_par_decl_here}

pub alias_row : (base : CType) (c : Env) (d : Declr) (ds : List Declr) →
    j.judged_aliases c base (map declr_of (d ∷ ds)) ≡ front in_front (judged_alias_here c base (declr_of d)) (λ e. j.judged_aliases e base (map declr_of ds))
alias_row base c d ds =
    sym (given_if {C = Behind st.Declr} {D = Behind (List st.Declr)} 1 (judged_declr c Option.None base (declr_of d)) (λ x. is_free x.name c.file)
    (λ x. record { tree = x; env = in_file (record { name = x.name; meaning = Alias x.ty }) (past_declr (declr_of d) c) })
    (λ y. onward (j.judged_aliases y.env base (map declr_of ds)) (λ r. behind (y.tree ∷ r.tree) r.env)))

pub item_row : (s : Option Storage) (base : CType) (c : Env) (i : Item) (is : List Item) →
    j.judged_file_items c s base (map item_of (i ∷ is)) ≡ front in_front (judged_item_here c s base (item_of i)) (λ e. j.judged_file_items e s base (map item_of is))
item_row s base c i is =
    sym (twice {B = Behind t.Item} {C = Behind (List t.Item)} (judged_declr c (missing s (item_of i).init) base (item_of i).declr)
    (λ d. j.judged_item (is_function d.ty) s (past_declr (item_of i).declr c) d (item_of i).init) (λ x. onward (j.judged_file_items x.env s base (map item_of is)) (λ r. behind (x.tree ∷ r.tree) r.env)))

pub parameter_row : (xs : List Name) (base : CType) (c : Env) (d : Declr) (ds : List Declr) →
    j.judged_parameters c xs base (map declr_of (d ∷ ds)) ≡ front in_front (judged_parameter_here c xs base (declr_of d)) (λ e. j.judged_parameters e xs base (map declr_of ds))
parameter_row xs base c d ds =
    sym (given {C = Behind st.Declr} {D = Behind (List st.Declr)} (j.judged_parameter c xs base (declr_of d)) (λ y. record { tree = y; env = past_declr (declr_of d) c })
    (λ y. onward (j.judged_parameters y.env xs base (map declr_of ds)) (λ r. behind (y.tree ∷ r.tree) r.env)))

pub par_decl_row : (xs : List Name) (c : Env) (p : ParDecl) (ps : List ParDecl) →
    j.judged_par_decls c xs (map par_of (p ∷ ps)) ≡ front in_front (judged_par_decl_here c xs (par_of p)) (λ e. j.judged_par_decls e xs (map par_of ps))
par_decl_row xs c p ps =
    sym (thrice {B = Behind (List st.Declr)} {C = Behind t.ParDecl} {D = Behind (List t.ParDecl)} (j.judged_types c (par_of p).types)
    (λ s. j.judged_parameters s.env xs s.tree.base (par_of p).declrs) (λ s ds. record { tree = record { spec = s.tree.spec; declrs = ds.tree }; env = ds.env })
    (λ y. onward (j.judged_par_decls y.env xs (map par_of ps)) (λ r. behind (y.tree ∷ r.tree) r.env)))

pub ext_row : (c : Env) (x : Ext) (xs : List Ext) → j.judged_exts c (map ext_of (x ∷ xs)) ≡ front in_front (j.judged_ext c (ext_of x)) (λ e. j.judged_exts e (map ext_of xs))
ext_row c x xs = refl
