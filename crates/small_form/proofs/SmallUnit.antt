-- The typed main of a unit of the small form is the one that belongs to the unit by the typing rules: declarations and the unit.
use Rattle.std.proofs.Common.{◌≡◌, ℕ, zero, suc, ◌+◌, ◌<◌, List, [], ◌∷◌, ◌++◌, length, map, refl, sym, ap, ◌∙◌, arith, subst, get_or, length-append}
use Rattle.std.specs.Prelude.{Option, Some, None, Bool, true, false, not, ◌&&◌, ◌||◌, option_map, Result, Ok, Err, IfOk, ⊤}
use Rattle.std.specs.List.{list_all}
use Rattle.std.proofs.lemmas.List.Quantifiers.{position-Some}
use Rattle.std.proofs.lemmas.Cmp.{nat_list_eq_equiv}
use Rattle.std.proofs.lemmas.Slice.Eq.{bytes_eq-Decides}
use Rattle.std.proofs.lemmas.List.{length-map}
use Rattle.c_type.specs.Names.{Name, same_name, pick, or_else}
use Rattle.c_type.specs.Types.{num, fun}
use Rattle.c_type.specs.declared.Kind.TheVariants as k
use Rattle.c_type.specs.declared.Kind.TheVariants.{Int}
use Rattle.c_tree.specs.declared.Storage.{Storage}
use Rattle.c_tree.specs.TreeExpr as u
use Rattle.c_tree.specs.TreeDecl as d
use Rattle.c_tree.specs.TreeStmt as us
use Rattle.c_tree.specs.TreeUnit as tu
use Rattle.c_tree.specs.TExpr.{Local, Func as OwnFunc}
use Rattle.c_tree.specs.TStmt as st
use Rattle.c_tree.specs.TUnit.{Func, plain, func}
use Rattle.c_tree.specs.declared.TFunc.{TFunc}
use Rattle.c_tree.specs.TypedOf.{func_of}
use Rattle.c_tree.specs.Library.{putchar_name, main_name}
use Rattle.c_tree.specs.TreeDecl.{declared}
use Rattle.c_rule.specs.RuleScope.{Env, Entry, Meaning, Thing, Function, in_scope, started}
use Rattle.c_rule.specs.RuleStmts.{AreLocals, AreDecls}
use Rattle.c_rule.specs.RuleTags.{in_file}
use Rattle.c_rule.specs.RuleUnit.{IsTyped, at_first, at_body, in_body}
use Rattle.small_form.specs.declared.typed_main.Fault.{Fault}
use Rattle.small_form.specs.Given.{Gives}
use Rattle.name_set.specs.Different.{place_in, stands_in, are_different}
use Rattle.small_form.specs.SmallForm.{is_int, is_bare, is_plain, names_in, object, locals_in, decls_in, is_free, is_body, body_in, main_with, is_main, main_in, only_main, small_main, unit_of_main, stmts_in, stmts_starts, are_variables, is_line}
use Rattle.small_form.proofs.Shaped.{none_some, mapped, picked}
use Rattle.small_form.proofs.SmallTyped.{Holds, stmts_typed}

sides : (x y : Name) → same_name x y ≡ same_name y x
sides x y = nat_list_eq_equiv.symm x y

not_true : false ≡ true → ⊥
not_true e = cc

-- both of two conditions
both : (a b : Bool) → (a && b) ≡ true → (a ≡ true) × (b ≡ true)
both true b e = (refl, e)
both false b e = absurd (not_true e)

is_not : (a : Bool) → not a ≡ true → a ≡ false
is_not true e = absurd (cc)
is_not false e = refl

neither : (a b : Bool) → (a || b) ≡ false → (a ≡ false) × (b ≡ false)
neither true b e = absurd (cc)
neither false b e = (refl, e)

-- ---- the scope of a block

abbrev entry : Name → ℕ → Entry
entry x i = record { name = x; meaning = Thing (Local i) (num Int) }

-- the scope es behind the declarations of names whose first is object i
abbrev pub entries : ℕ → List Name → List Entry → List Entry
entries i [] es = es
entries i (x ∷ xs) es = entries (i + 1) xs (entry x i ∷ es)

-- names that a scope does not hold yet
abbrev AreNew : List Name → List Entry → Type 0
AreNew [] es = ⊤
AreNew (x ∷ xs) es = (in_scope x es ≡ None) × AreNew xs es

other_name : (x y : Name) (i : ℕ) (es : List Entry) → same_name x y ≡ false → in_scope x (entry y i ∷ es) ≡ in_scope x es
other_name x y i es e = ap (λ b. pick b (Some (Thing (Local i) (num Int))) (in_scope x es)) e

still_new : (xs : List Name) (es : List Entry) (y : Name) (i : ℕ) → AreNew xs es → stands_in xs y ≡ false → AreNew xs (entry y i ∷ es)
still_new [] es y i new e = tt
still_new (x ∷ xs) es y i new e =
    let p = neither (same_name x y) (stands_in xs y) e in
    (other_name x y i es p.0 ∙ new.0, still_new xs es y i new.1 p.1)

all_new : (xs : List Name) → AreNew xs []
all_new [] = tt
all_new (x ∷ xs) = (refl, all_new xs)

differ_here : (x : Name) (xs : List Name) → are_different (x ∷ xs) ≡ true → (stands_in xs x ≡ false) × (are_different xs ≡ true)
differ_here x xs e = let p = both (not (stands_in xs x)) (are_different xs) e in (is_not (stands_in xs x) p.0, p.1)

-- behind the first of new names that differ the others are new
behind_new : (i : ℕ) (xs ys : List Name) (es : List Entry) → are_different (xs ++ ys) ≡ true → AreNew (xs ++ ys) es → AreNew ys (entries i xs es) × (are_different ys ≡ true)
behind_new i [] ys es e new = (new, e)
behind_new i (x ∷ xs) ys es e new =
    let p = differ_here x (xs ++ ys) e in
    behind_new (i + 1) xs ys (entry x i ∷ es) p.1 (still_new (xs ++ ys) es x i new.1 p.0)

entries_append : (i : ℕ) (xs ys : List Name) (es : List Entry) → entries (i + length xs) ys (entries i xs es) ≡ entries i (xs ++ ys) es
entries_append i [] ys es = ap (λ j. entries j ys es) (omega arith)
entries_append i (x ∷ xs) ys es = ap (λ j. entries j ys (entries (i + 1) xs (entry x i ∷ es))) (omega arith) ∙ entries_append (i + 1) xs ys (entry x i ∷ es)

skipped : (i : ℕ) (xs : List Name) (es : List Entry) (x : Name) → stands_in xs x ≡ false → in_scope x (entries i xs es) ≡ in_scope x es
skipped i [] es x e = refl
skipped i (y ∷ xs) es x e =
    let p = neither (same_name y x) (stands_in xs x) e in
    skipped (i + 1) xs (entry y i ∷ es) x p.1 ∙ other_name x y i es (sides x y ∙ p.0)

-- a declared name means its object
found_at : (i : ℕ) (xs : List Name) (es : List Entry) (x : Name) (j : ℕ) → are_different xs ≡ true → j < length xs → same_name (get_or xs j []) x ≡ true
    → in_scope x (entries i xs es) ≡ Some (Thing (Local (i + j)) (num Int))
found_at i [] es x j differ within at = absurd (omega arith)
found_at i (y ∷ xs) es x zero differ within at =
    let p = differ_here y xs differ in
    let out : stands_in xs x ≡ false = subst (λ z. stands_in xs z ≡ false) ((bytes_eq-Decides y x).0 at) p.0 in
    skipped (i + 1) xs (entry y i ∷ es) x out ∙ ap (λ b. pick b (Some (Thing (Local i) (num Int))) (in_scope x es)) (sides x y ∙ at) ∙ ap (λ n. Some (Thing (Local n) (num Int))) (omega arith)
found_at i (y ∷ xs) es x (suc j) differ within at =
    let p = differ_here y xs differ in
    found_at (i + 1) xs (entry y i ∷ es) x j p.1 (omega arith) at ∙ ap (λ n. Some (Thing (Local n) (num Int))) (omega arith)

found : (ns : List Name) (x : Name) (i : ℕ) → are_different ns ≡ true → place_in ns x ≡ Some i → in_scope x (entries 0 ns []) ≡ Some (Thing (Local i) (num Int))
found ns x i differ at =
    let p = position-Some (λ y. same_name y x) ns i [] at in
    found_at 0 ns [] x i differ p.0 p.1 ∙ ap (λ n. Some (Thing (Local n) (num Int))) (omega arith)

-- no variable is putchar
no_putchar : (ns : List Name) → list_all is_free ns ≡ true → stands_in ns putchar_name ≡ false
no_putchar [] e = refl
no_putchar (x ∷ ns) e =
    let p = both (is_free x) (list_all is_free ns) e in
    let q = both (not (same_name x main_name)) (not (same_name x putchar_name)) p.0 in
    rw (is_not (same_name x putchar_name) q.1) (no_putchar ns p.1)

-- ---- declarations

-- in a block where the scope holds these entries, and so many objects are declared
abbrev inside : Env → List Entry → ℕ → Env
inside c es i = record c { blocks = es ∷ []; autos = i }

record IsBare (i : d.Item) : Type 0 where
  line : ℕ
  name : Name
  declr : i.declr ≡ d.name line name
  init : i.init ≡ None

bare_item : (i : d.Item) → is_bare i.declr i.init ≡ true → IsBare i
bare_item i = by i.declr i.init refl refl
  where
    by : (r : d.Declr) (v : Option d.Init) → i.declr ≡ r → i.init ≡ v → is_bare r v ≡ true → IsBare i
    by (d.name l x) None er ev e = record { line = l; name = x; declr = er; init = ev }
    by (d.name l x) (Some j) er ev e = absurd (not_true e)
    by (d.pointer l r) v er ev e = absurd (not_true e)
    by (d.array l r a) v er ev e = absurd (not_true e)
    by (d.function l r xs) v er ev e = absurd (not_true e)

int_words : (s : Option Storage) (y : Option u.TypeSpec) → is_int s y ≡ true → (s ≡ None) × (y ≡ Some (u.num Int))
int_words None (Some (u.num Int)) e = (refl, refl)
int_words None (Some (u.num k.Char)) e = absurd (not_true e)
int_words None (Some (u.num k.UChar)) e = absurd (not_true e)
int_words None (Some (u.num k.Short)) e = absurd (not_true e)
int_words None (Some (u.num k.UShort)) e = absurd (not_true e)
int_words None (Some (u.num k.UInt)) e = absurd (not_true e)
int_words None (Some (u.num k.Long)) e = absurd (not_true e)
int_words None (Some (u.num k.ULong)) e = absurd (not_true e)
int_words None (Some u.void) e = absurd (not_true e)
int_words None (Some (u.tag t)) e = absurd (not_true e)
int_words None (Some (u.named x)) e = absurd (not_true e)
int_words None None e = absurd (not_true e)
int_words (Some s) y e = absurd (not_true e)

locals_typed : (c : Env) (es : List Entry) (i : ℕ) (xs : List d.Item) → list_all (λ z. is_bare z.declr z.init) xs ≡ true → AreNew (map (λ z. declared z.declr) xs) es
    → are_different (map (λ z. declared z.declr) xs) ≡ true
    → AreLocals (inside c es i) None (num Int) xs (locals_in i xs) (inside c (entries i (map (λ z. declared z.declr) xs) es) (i + length xs))
locals_typed c es i [] bare new differ = (refl, ap (inside c es) (omega arith))
locals_typed c es i (x ∷ xs) bare new differ =
    let p = both (is_bare x.declr x.init) (list_all (λ z. is_bare z.declr z.init) xs) bare in
    let b = bare_item x p.0 in
    let named : declared x.declr ≡ b.name = ap declared b.declr in
    let w = differ_here (declared x.declr) (map (λ z. declared z.declr) xs) differ in
    let later = still_new (map (λ z. declared z.declr) xs) es (declared x.declr) i new.1 w.0 in
    let rest = locals_typed c (entry (declared x.declr) i ∷ es) (i + 1) xs p.1 later w.1 in
    let next : i + 1 ≡ suc i = omega arith in
    let last : i + 1 + length xs ≡ i + length (x ∷ xs) = omega arith in
    let item : d.Item = record { declr = d.name b.line b.name; init = None } in
    let same : x ≡ item = ap (λ r. record { declr = r; init = x.init }) b.declr ∙ ap (λ v. record { declr = d.name b.line b.name; init = v }) b.init in
    let all : AreLocals (inside c (entry (declared x.declr) i ∷ es) (suc i)) None (num Int) xs (locals_in (i + 1) xs) (inside c (entries i (map (λ z. declared z.declr) (x ∷ xs)) es) (i + length (x ∷ xs))) =
    subst (λ j. AreLocals (inside c (entry (declared x.declr) i ∷ es) j) None (num Int) xs (locals_in (i + 1) xs) (inside c (entries i (map (λ z. declared z.declr) (x ∷ xs)) es) (i + length (x ∷ xs)))) next
    (subst (λ j. AreLocals (inside c (entry (declared x.declr) i ∷ es) (i + 1)) None (num Int) xs (locals_in (i + 1) xs) (inside c (entries i (map (λ z. declared z.declr) (x ∷ xs)) es) j)) last rest) in
    more_locals c es i x b.line b.name xs (locals_in (i + 1) xs) (inside c (entries i (map (λ z. declared z.declr) (x ∷ xs)) es) (i + length (x ∷ xs))) b.declr b.init (sym (ap (λ z. in_scope z es) named) ∙ new.0)
    (subst (λ z. AreLocals (inside c (entry z i ∷ es) (suc i)) None (num Int) xs (locals_in (i + 1) xs) (inside c (entries i (map (λ z. declared z.declr) (x ∷ xs)) es) (i + length (x ∷ xs)))) named all)
  where
    more_locals : (c : Env) (es : List Entry) (i : ℕ) (x : d.Item) (l : ℕ) (y : Name) (xs : List d.Item) (ls : List st.Local) (e : Env) → x.declr ≡ d.name l y → x.init ≡ None → in_scope y es ≡ None
        → AreLocals (inside c (entry y i ∷ es) (suc i)) None (num Int) xs ls e → AreLocals (inside c es i) None (num Int) (x ∷ xs) (object x.declr i ∷ ls) e
    more_locals c es i x l y xs ls e er ev free all =
        rw (er, ev) (
          record { name = y; ty = num Int; dims = [] },
          st.auto (record { name = y; ty = num Int; dims = [] }) i,
          ls,
          inside c (entry y i ∷ es) (suc i),
          ((refl, refl, refl), refl),
          (inside c (entry y i ∷ es) i, refl, (rw free refl, refl), refl, refl),
          all,
          refl,
        )

decls_typed : (c : Env) (es : List Entry) (i : ℕ) (ds : List d.LocalDecl) → list_all is_plain ds ≡ true → AreNew (names_in ds) es → are_different (names_in ds) ≡ true
    → AreDecls (inside c es i) ds (decls_in i ds) (inside c (entries i (names_in ds) es) (i + length (names_in ds)))
decls_typed c es i [] words new differ = (refl, ap (inside c es) (omega arith))
decls_typed c es i (x ∷ ds) all new differ =
    let p = both (is_plain x) (list_all is_plain ds) all in
    let w = both (is_int x.specs.storage x.specs.types) (list_all (λ z. is_bare z.declr z.init) x.items) p.0 in
    let said = int_words x.specs.storage x.specs.types w.0 in
    let mine = map (λ z. declared z.declr) x.items in
    let others = behind_new i mine (names_in ds) es differ new in
    let own = front_new mine (names_in ds) es differ new in
    let first = locals_typed c es i x.items w.1 own.0 own.1 in
    let many : length mine ≡ length x.items = length-map x.items (λ z. declared z.declr) in
    let rest = decls_typed c (entries i mine es) (i + length x.items) ds p.1 others.0 others.1 in
    let same : entries (i + length x.items) (names_in ds) (entries i mine es) ≡ entries i (mine ++ names_in ds) es =
    ap (λ n. entries (i + n) (names_in ds) (entries i mine es)) (sym many) ∙ entries_append i mine (names_in ds) es in
    let count : i + length x.items + length (names_in ds) ≡ i + length (names_in (x ∷ ds)) =
    let sum = length-append mine (names_in ds) in omega (arith, sum, many) in
    let last : inside c (entries (i + length x.items) (names_in ds) (entries i mine es)) (i + length x.items + length (names_in ds)) ≡ inside c (entries i (names_in (x ∷ ds)) es) (i + length (names_in (x ∷ ds))) =
    ap (λ z. inside c z (i + length x.items + length (names_in ds))) same ∙ ap (inside c (entries i (names_in (x ∷ ds)) es)) count in (
      num Int,
      locals_in i x.items,
      decls_in (i + length x.items) ds,
      inside c (entries i mine es) (i + length x.items),
      rw (said.1) refl,
      rw (said.0) first,
      subst (λ e. AreDecls (inside c (entries i mine es) (i + length x.items)) ds (decls_in (i + length x.items) ds) e) last rest,
      refl,
    )
  where
    stands_front : (xs ys : List Name) (x : Name) → stands_in (xs ++ ys) x ≡ false → stands_in xs x ≡ false
    stands_front [] ys x e = refl
    stands_front (y ∷ xs) ys x e = let p = neither (same_name y x) (stands_in (xs ++ ys) x) e in rw p.0 (stands_front xs ys x p.1)

    front_new : (xs ys : List Name) (es : List Entry) → are_different (xs ++ ys) ≡ true → AreNew (xs ++ ys) es → AreNew xs es × (are_different xs ≡ true)
    front_new [] ys es e new = (tt, refl)
    front_new (x ∷ xs) ys es e new =
        let p = differ_here x (xs ++ ys) e in
        let q = front_new xs ys es p.1 new.1 in
        ((new.0, q.0), rw (stands_front xs ys x p.0) q.1)

-- ---- the unit

-- `main ( )` with its body
abbrev main_ext : (l m n : ℕ) → us.Block → tu.Ext
main_ext l m n b = tu.func l None (d.function m (d.name n main_name) []) [] b

record IsMainHead (h : d.Declr) : Type 0 where
  line : ℕ
  name_line : ℕ
  is : h ≡ d.function line (d.name name_line main_name) []

main_head : (h : d.Declr) → is_main h ≡ true → IsMainHead h
main_head (d.function l (d.name m x) []) e = record { line = l; name_line = m; is = ap (λ y. d.function l (d.name m y) []) ((bytes_eq-Decides x main_name).0 e) }
main_head (d.function l (d.name m x) (y ∷ ys)) e = absurd (not_true e)
main_head (d.function l (d.pointer m r) xs) e = absurd (not_true e)
main_head (d.function l (d.array m r a) xs) e = absurd (not_true e)
main_head (d.function l (d.function m r zs) xs) e = absurd (not_true e)
main_head (d.name l x) e = absurd (not_true e)
main_head (d.pointer l r) e = absurd (not_true e)
main_head (d.array l r a) e = absurd (not_true e)

abbrev one_unit : tu.Ext → tu.Unit
one_unit e = record { exts = e ∷ [] }

abbrev main_meaning : Meaning
main_meaning = Function false (OwnFunc 0) (fun (num Int))

-- behind main's head
abbrev behind_head : (l m n : ℕ) → us.Block → Env
behind_head l m n b = in_file (record { name = main_name; meaning = main_meaning }) (at_first (one_unit (main_ext l m n b)))

main_holds : (l m n : ℕ) (b : us.Block) (ns : List Name) → are_different ns ≡ true → list_all is_free ns ≡ true
    → Holds ns (inside (in_body [] (behind_head l m n b)) (entries 0 ns []) (0 + length ns))
main_holds l m n b ns differ free = record {
  finds = λ x i at. ap (λ z. or_else (or_else z None) (in_scope x (behind_head l m n b).file)) (found ns x i differ at);
  no_putchar = ap (λ z. or_else (or_else z None) None) (skipped 0 ns [] putchar_name (no_putchar ns free));
  outer = refl;
}

main_typed : (l m n : ℕ) (b : us.Block) (f : Func) → body_in b ≡ Some f → IsTyped (one_unit (main_ext l m n b)) (unit_of_main f)
main_typed l m n b f q =
    let p = picked (is_body b) (option_map (main_with b) (stmts_in (names_in b.decls) 1 b.stmts)) f q in
    let w = mapped (main_with b) (stmts_in (names_in b.decls) 1 b.stmts) f p.1 in
    let c1 = both (is_line b.line && is_line b.close_line && list_all is_plain b.decls) (are_variables (names_in b.decls)) p.0 in
    let c2 = both (is_line b.line && is_line b.close_line) (list_all is_plain b.decls) c1.0 in
    let c3 = both (are_different (names_in b.decls)) (list_all is_free (names_in b.decls)) c1.1 in
    let ns = names_in b.decls in
    let c = in_body [] (behind_head l m n b) in
    let here = inside c (entries 0 ns []) (0 + length ns) in
    let decls = decls_typed c [] 0 b.decls c2.1 (all_new ns) c3.0 in
    let stmts = stmts_typed ns here (at_body (num Int)) b.stmts w.0 (main_holds l m n b ns c3.0 c3.1) refl w.1 in
    subst (λ g. IsTyped (one_unit (main_ext l m n b)) (unit_of_main g)) w.2
    (record {
      last = record (started (1 + stmts_starts b.stmts) here) { blocks = [] };
      parts = (func (plain (num Int)) (main_with b w.0), [], _, (plain (num Int), num Int, record { name = main_name; ty = fun (num Int); dims = [] }, main_with b w.0, at_first (one_unit (main_ext l m n b)), (refl, refl, refl), ((refl, refl, refl), refl), (behind_head l m n b, here, started (stmts_starts b.stmts) here, refl, (at_first (one_unit (main_ext l m n b)), (refl, refl), refl, refl, (main_meaning, refl, refl)), decls, stmts, refl, refl, refl, refl, refl, refl, refl, ap (λ k. record here { starts = k; blocks = [] }) (omega arith)), refl), (refl, refl), refl);
      defined_once = refl;
      tags_once = refl;
      tags = refl;
      texts = refl;
    })

-- the typed main that is said of a unit belongs to it
pub small_typed : (y : tu.Unit) (f : Func) → small_main y ≡ Some f → IsTyped y (unit_of_main f)
small_typed y f = by_exts y.exts
  where
    by_ext : (e : tu.Ext) → main_in e ≡ Some f → IsTyped (one_unit e) (unit_of_main f)
    by_ext (tu.func l None h [] b) q =
        let p = picked (is_main h) (body_in b) f q in
        let r = main_head h p.0 in
        subst (λ z. IsTyped (one_unit (tu.func l None z [] b)) (unit_of_main f)) (sym r.is) (main_typed l r.line r.name_line b f p.1)
    by_ext (tu.func l None h (p ∷ ps) b) q = absurd (none_some f q)
    by_ext (tu.func l (Some s) h ps b) q = absurd (none_some f q)
    by_ext (tu.typedef l s ds) q = absurd (none_some f q)
    by_ext (tu.tag_only l t) q = absurd (none_some f q)
    by_ext (tu.object l s is) q = absurd (none_some f q)

    by_exts : (es : List tu.Ext) → only_main es ≡ Some f → IsTyped (record { exts = es }) (unit_of_main f)
    by_exts [] q = absurd (none_some f q)
    by_exts (e ∷ []) q = by_ext e q
    by_exts (e ∷ e2 ∷ es) q = absurd (none_some f q)

-- so does the one that is made of it
pub made_typed : (y : tu.Unit) (r : Result TFunc Fault) → Gives func_of r (small_main y) → IfOk r (λ f. IsTyped y (unit_of_main (func_of f)))
made_typed y (Ok f) given = small_typed y (func_of f) given
made_typed y (Err e) given = tt
