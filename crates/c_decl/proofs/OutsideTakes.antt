-- What is read outside of blocks is spelled so.
use Rattle.std.proofs.Common.{◌≡◌, ℕ, ◌≤◌, suc, List, [], ◌∷◌, length, map, Option, Some, None, Bool, true, false, nat_eq, ◌&&◌, ◌||◌, refl, arith, ap, sym, ◌∙◌, inl, inr, true≢false}
use Rattle.std.proofs.lemmas.Bool.{eqb-true}
use Rattle.c_type.specs.Names.{Name, pick}
use Rattle.c_type.specs.declared.TagKind.{TagKind}
use Rattle.c_lex.specs.Tokens.{Token}
use Rattle.c_grammar.specs.Words.{TypeWord, Separated, listed, open_brace, semicolon, spell_separated, AreAll}
use Rattle.c_tree.specs.TreeExpr.{Expr, expr_depth}
use Rattle.c_tree.specs.TreeDecl.{Types, TagDef, TagSpec, FileSpecs, Declr, declr_depth}
use Rattle.c_tree.specs.TreeDecl as t
use Rattle.c_tree.specs.TreeUnit.{Ext, FuncHead, ext_depth, head_depth}
use Rattle.c_tree.specs.TreeUnit as u
use Rattle.c_grammar.specs.WrittenType.{TypePart, word_part, tag_part, name_part}
use Rattle.c_grammar.specs.WrittenDeclr.{WrittenDeclr, plain_declr, plain_item, is_bare, is_pointer, IsDeclr, IsHead, spell_declr, spell_item, Chosen, IfThere, Named, IsParameter}
use Rattle.c_grammar.specs.WrittenDeclr as d
use Rattle.c_grammar.specs.WrittenSpecs.{Parts, storages, typedefs, type_parts, bodies, first_line, plain_def, plain_types, plain_specs, first_of, is_file_storage, is_type_or_none, is_empty, AreParts, AreSpecs, AreTypedef, spell_specs}
use Rattle.c_grammar.specs.WrittenSpecs as p
use Rattle.c_grammar.specs.WrittenDecl.{WrittenTag, plain_par, plain_tag, IsTag, tag_line, spell_tag}
use Rattle.c_grammar.specs.WrittenDecl as g
use Rattle.c_grammar.specs.WrittenUnit.{WrittenExt, WrittenHead, plain_ext, plain_head, specs_or_none, head_line, IsExt, IsFuncHead, AreHeadSpecs, spell_ext, spell_head, spell_pars}
use Rattle.c_grammar.specs.WrittenUnit as n
use Rattle.c_grammar.specs.Reads.{Spells, is_declaration}
use Rattle.c_expr.specs.Front.{Read, ◌>>=◌, eat, line_at, grown}
use Rattle.c_decl.specs.Separated.{separated}
use Rattle.c_decl.specs.ReadDeclr as r
use Rattle.c_decl.specs.ReadInit as i
use Rattle.c_decl.specs.ReadSpecs.{Found, no_storage, types_found}
use Rattle.c_decl.specs.ReadSpecs as s
use Rattle.c_decl.specs.ReadDecl as e
use Rattle.c_decl.specs.Named as named
use Rattle.c_decl.proofs.DeclrAgain.{IsLoose, declr_line_at}
use Rattle.c_decl.proofs.SpecsAgain.{found}
use Rattle.c_decl.proofs.BodiesAgain.{bodies_count, types_are_found, specs_line_at}
use Rattle.c_expr.proofs.Taken.{some_is, bind_some, chosen, eat_takes}
use Rattle.c_decl.proofs.SeparatedTakes.{grown_takes}
use Rattle.c_decl.proofs.DeclrTakes.{loose_declr_takes, bare_is, loose_plain}
use Rattle.c_decl.proofs.SpecsTakes.{WordsTaken, both, none_stored}
use Rattle.c_decl.proofs.BodiesTakes.{declrs_take, file_words_take}
use Rattle.c_decl.proofs.DeclTakes.{items_take, pars_take}
use Rattle.c_decl.proofs.OutsideAgain.{any_parts, any_bodies}

-- ---- a tag alone

tag_and_body : (q : TypePart) (qs : List TypePart) (b : TagDef) (bs : List TagDef) → e.tag_of (q ∷ qs) (b ∷ bs) ≡ None
tag_and_body (word_part l v) qs b bs = refl
tag_and_body (name_part l x) qs b bs = refl
tag_and_body (tag_part l kind m x) [] b bs = refl
tag_and_body (tag_part l kind m x) (q ∷ qs) b bs = refl

two_bodies : (qs : List TypePart) (a b : TagDef) (bs : List TagDef) → e.tag_of qs (a ∷ b ∷ bs) ≡ None
two_bodies [] a b bs = refl
two_bodies (q ∷ qs) a b bs = tag_and_body q qs a (b ∷ bs)

two_parts : (l : ℕ) (kind : TagKind) (m : ℕ) (x : Name) (q : TypePart) (qs : List TypePart) (bs : List TagDef) → e.tag_of (tag_part l kind m x ∷ q ∷ qs) bs ≡ None
two_parts l kind m x q qs [] = refl
two_parts l kind m x q qs (b ∷ bs) = refl

record TagAlone (defs : List Name) (ps : Parts) (y : TagSpec) : Type 0 where
  written : WrittenTag
  levelled : IsTag defs written
  plain_is : plain_tag written ≡ y
  line_is : tag_line written ≡ first_line ps
  tokens : (ts : List Token) → spell_specs ps ts ≡ spell_tag written ts
  some : is_empty ps ≡ false

no_way : {A : Type 0} {B : Type 0} (o : Option A) (y : A) → o ≡ None → o ≡ Some y → B
no_way o y none some = cc

tag_alone : (defs : List Name) (ps : Parts) (y : TagSpec) → AreParts defs ps → storages ps ≡ [] → typedefs ps ≡ 0 → e.tag_of (type_parts ps) (map plain_def (bodies ps)) ≡ Some y → TagAlone defs ps y
tag_alone defs p.no_parts y ok no_storage no_typedef is = cc
tag_alone defs (p.more_parts (p.storage l c) ps) y ok no_storage no_typedef is = cc
tag_alone defs (p.more_parts (p.typedef l) ps) y ok no_storage no_typedef is = absurd (omega (arith, no_typedef))
tag_alone defs (p.more_parts (p.typed (word_part l v)) ps) y ok no_storage no_typedef is = no_way _ y (word_alone l v (type_parts ps) (map plain_def (bodies ps))) is
  where
    word_alone : (l : ℕ) (v : TypeWord) (qs : List TypePart) (bs : List TagDef) → e.tag_of (word_part l v ∷ qs) bs ≡ None
    word_alone l v qs bs = refl
tag_alone defs (p.more_parts (p.typed (name_part l x)) ps) y ok no_storage no_typedef is = cc
tag_alone defs (p.more_parts (p.typed (tag_part l kind m x)) p.no_parts) y ok no_storage no_typedef is =
    record { written = g.ref l kind m x; levelled = ok.0; plain_is = some_is is; line_is = refl; tokens = λ ts. refl; some = refl }
tag_alone defs (p.more_parts (p.typed (tag_part l kind m x)) (p.more_parts (p.storage l1 c) ps)) y ok no_storage no_typedef is = cc
tag_alone defs (p.more_parts (p.typed (tag_part l kind m x)) (p.more_parts (p.typedef l1) ps)) y ok no_storage no_typedef is = absurd (omega (arith, no_typedef))
tag_alone defs (p.more_parts (p.typed (tag_part l kind m x)) (p.more_parts (p.typed q) ps)) y ok no_storage no_typedef is = no_way _ y (two_parts l kind m x q (type_parts ps) (map plain_def (bodies ps))) is
tag_alone defs (p.more_parts (p.typed (tag_part l kind m x)) (p.more_parts (p.tagged b) ps)) y ok no_storage no_typedef is =
    no_way _ y (tag_and_body (tag_part l kind m x) (type_parts ps) (plain_def b) (map plain_def (bodies ps))) is
tag_alone defs (p.more_parts (p.tagged a) p.no_parts) y ok no_storage no_typedef is =
    record { written = g.body a; levelled = ok.0; plain_is = some_is is; line_is = refl; tokens = λ ts. refl; some = refl }
tag_alone defs (p.more_parts (p.tagged a) (p.more_parts (p.storage l1 c) ps)) y ok no_storage no_typedef is = cc
tag_alone defs (p.more_parts (p.tagged a) (p.more_parts (p.typedef l1) ps)) y ok no_storage no_typedef is = absurd (omega (arith, no_typedef))
tag_alone defs (p.more_parts (p.tagged a) (p.more_parts (p.typed q) ps)) y ok no_storage no_typedef is =
    no_way _ y (tag_and_body q (type_parts ps) (plain_def a) (map plain_def (bodies ps))) is
tag_alone defs (p.more_parts (p.tagged a) (p.more_parts (p.tagged b) ps)) y ok no_storage no_typedef is =
    no_way _ y (two_bodies (type_parts ps) (plain_def a) (plain_def b) (map plain_def (bodies ps))) is

only_tag_is : (defs : List Name) (ps : Parts) (f : Found) (y : TagSpec) → AreParts defs ps → found ps ≡ f → e.only_tag f ≡ Some y → TagAlone defs ps y
only_tag_is defs ps f y ok same is =
    let at : e.only_tag (found ps) ≡ Some y = ap e.only_tag same ∙ is in
    elim (chosen (no_storage (storages ps) && nat_eq (typedefs ps) 0) (e.tag_of (type_parts ps) (map plain_def (bodies ps))) None (Some y) at) [
      | inl h ↦ let a = both (no_storage (storages ps)) (nat_eq (typedefs ps) 0) h.0 in tag_alone defs ps y ok (none_stored (storages ps) a.0) (eqb-true (typedefs ps) 0 a.1) h.1
      | inr h ↦ cc (h.1)
    ]

-- ---- what the words say

some_any : (ps : Parts) → e.is_any (storages ps) (type_parts ps) (map plain_def (bodies ps)) ≡ true → is_empty ps ≡ false
some_any p.no_parts is = absurd (true≢false (sym is))
some_any (p.more_parts q ps) is = refl

file_specs_are : (defs : List Name) (ps : Parts) (f : Found) (y : FileSpecs) → AreParts defs ps → found ps ≡ f → e.file_specs f ≡ Some y → AreSpecs defs ps × (plain_specs ps ≡ y)
file_specs_are defs ps f y ok same is =
    let at : e.file_specs (found ps) ≡ Some y = ap e.file_specs same ∙ is in
    elim (chosen (e.is_any (storages ps) (type_parts ps) (map plain_def (bodies ps)) && (nat_eq (typedefs ps) 0 && (is_file_storage (storages ps) && is_type_or_none (length (map plain_def (bodies ps))) (type_parts ps))))
    (Some (record { storage = first_of (storages ps); types = types_found (found ps) })) None (Some y) at) [
      | inl h ↦
          let a = both (e.is_any (storages ps) (type_parts ps) (map plain_def (bodies ps))) _ h.0 in
          let b = both (nat_eq (typedefs ps) 0) _ a.1 in
          let c = both (is_file_storage (storages ps)) _ b.1 in
          let made : Option Types → FileSpecs = λ v. record { storage = first_of (storages ps); types = v } in (
            record { some = some_any ps a.0; storage = c.0; no_typedef = eqb-true (typedefs ps) 0 b.0; types = ap (λ j. is_type_or_none j (type_parts ps)) (sym (bodies_count (bodies ps))) ∙ c.1; parts = ok },
            ap made (sym (types_are_found ps)) ∙ some_is h.1,
          )
      | inr h ↦ cc (h.1)
    ]

typedef_types_are : (defs : List Name) (ps : Parts) (f : Found) (y : Option Types) → AreParts defs ps → found ps ≡ f → e.typedef_types f ≡ Some y → AreTypedef defs ps × (plain_types ps ≡ y)
typedef_types_are defs ps f y ok same is =
    let at : e.typedef_types (found ps) ≡ Some y = ap e.typedef_types same ∙ is in
    elim (chosen (no_storage (storages ps) && (nat_eq (typedefs ps) 1 && is_type_or_none (length (map plain_def (bodies ps))) (type_parts ps))) (Some (types_found (found ps))) None (Some y) at) [
      | inl h ↦
          let a = both (no_storage (storages ps)) _ h.0 in
          let b = both (nat_eq (typedefs ps) 1) _ a.1 in (
            record { no_storage = none_stored (storages ps) a.0; one_typedef = eqb-true (typedefs ps) 1 b.0; types = ap (λ j. is_type_or_none j (type_parts ps)) (sym (bodies_count (bodies ps))) ∙ b.1; parts = ok },
            sym (types_are_found ps) ∙ some_is h.1,
          )
      | inr h ↦ cc (h.1)
    ]

typedef_some : (ps : Parts) → typedefs ps ≡ 1 → is_empty ps ≡ false
typedef_some p.no_parts one = absurd (omega (arith, one))
typedef_some (p.more_parts q ps) one = refl

no_parts_empty : (ps : Parts) → typedefs ps ≡ 0 → e.is_any (storages ps) (type_parts ps) (map plain_def (bodies ps)) ≡ false → ps ≡ p.no_parts
no_parts_empty p.no_parts none is = refl
no_parts_empty (p.more_parts (p.storage l c) ps) none is = absurd (true≢false is)
no_parts_empty (p.more_parts (p.typedef l) ps) none is = absurd (omega (arith, none))
no_parts_empty (p.more_parts (p.typed q) ps) none is = absurd (true≢false (sym (any_parts (storages ps) q (type_parts ps) (map plain_def (bodies ps))) ∙ is))
no_parts_empty (p.more_parts (p.tagged b) ps) none is = absurd (true≢false (sym (any_bodies (storages ps) (type_parts ps) (plain_def b) (map plain_def (bodies ps))) ∙ is))

head_more : (defs : List Name) (ps : Parts) → AreSpecs defs ps → AreHeadSpecs defs ps × (specs_or_none ps ≡ Some (plain_specs ps))
head_more defs p.no_parts ok = absurd (true≢false ok.some)
head_more defs (p.more_parts q ps) ok = (ok, refl)

head_specs_by : (defs : List Name) (ps : Parts) (f : Found) (b : Bool) (o : Option FileSpecs) (y : Option FileSpecs) → AreParts defs ps → found ps ≡ f → typedefs ps ≡ 0
    → e.is_any (storages ps) (type_parts ps) (map plain_def (bodies ps)) ≡ b → e.file_specs f ≡ o → e.head_specs_by b o ≡ Some y → AreHeadSpecs defs ps × (specs_or_none ps ≡ y)
head_specs_by defs ps f false o y ok same none any at is = rw (no_parts_empty ps none any) (tt, some_is is)
head_specs_by defs ps f true None y ok same none any at is = cc
head_specs_by defs ps f true (Some c) y ok same none any at is =
    let specs = file_specs_are defs ps f c ok same at in
    let more = head_more defs ps specs.0 in
    (more.0, more.1 ∙ ap Some specs.1 ∙ some_is is)

head_specs_are : (defs : List Name) (ps : Parts) (f : Found) (y : Option FileSpecs) → AreParts defs ps → found ps ≡ f → e.head_specs f ≡ Some y → AreHeadSpecs defs ps × (specs_or_none ps ≡ y)
head_specs_are defs ps f y ok same is =
    let at : e.head_specs (found ps) ≡ Some y = ap e.head_specs same ∙ is in
    elim (chosen (nat_eq (typedefs ps) 0) (e.head_specs_by (e.is_any (storages ps) (type_parts ps) (map plain_def (bodies ps))) (e.file_specs (found ps))) None (Some y) at) [
      | inl h ↦ head_specs_by defs ps (found ps) (e.is_any (storages ps) (type_parts ps) (map plain_def (bodies ps))) (e.file_specs (found ps)) y ok refl (eqb-true (typedefs ps) 0 h.0) refl refl h.1
      | inr h ↦ cc (h.1)
    ]

-- ---- the heads of functions

bare_names : (q : WrittenDeclr) → is_bare q ≡ true → r.has_names (plain_declr q) ≡ false
bare_names (d.pointer l q) is = absurd (true≢false (sym is))
bare_names (d.name l y) is = refl
bare_names (d.array q l j m) is = absurd (true≢false (sym is))
bare_names (d.function q l xs m) is = absurd (true≢false (sym is))
bare_names (d.bracket l q m) is = bare_names q is

suffix_head : (defs : List Name) (q : WrittenDeclr) (xs : Option (Separated Named)) (b : Bool) → is_bare q ≡ b → is_pointer q ≡ false → IsLoose defs q → Chosen b (IfThere (AreAll (IsParameter defs)) xs) (xs ≡ None)
    → (named.declares_function (plain_declr q) ≡ true → IsHead defs q) → (b || named.declares_function (plain_declr q)) ≡ true
    → Chosen b (IsDeclr defs q × IfThere (AreAll (IsParameter defs)) xs) ((is_pointer q ≡ false) × IsHead defs q × (xs ≡ None))
suffix_head defs q xs true bare direct ok names inner is = (loose_plain defs q ok (bare_names q bare), names)
suffix_head defs q xs false bare direct ok names inner is = (direct, inner is, names)

loose_head : (defs : List Name) (q : WrittenDeclr) → IsLoose defs q → named.declares_function (plain_declr q) ≡ true → IsHead defs q
loose_head defs (d.pointer l q) ok is = loose_head defs q ok is
loose_head defs (d.name l y) ok is = absurd (true≢false (sym is))
loose_head defs (d.array q l j m) ok is = (ok.0, loose_head defs q ok.1 is, ok.2)
loose_head defs (d.function q l xs m) ok is =
    suffix_head defs q xs (is_bare q) refl ok.0 ok.1 ok.2 (loose_head defs q ok.1) (ap (λ b. b || named.declares_function (plain_declr q)) (bare_is q) ∙ is)
loose_head defs (d.bracket l q m) ok is = loose_head defs q ok is

head_line_is : (ps : Parts) (q : WrittenDeclr) (ts : List Token) → line_at (spell_specs ps (spell_declr q ts)) ≡ head_line ps q
head_line_is p.no_parts q ts = declr_line_at q ts
head_line_is (p.more_parts j ps) q ts = specs_line_at (p.more_parts j ps) (spell_declr q ts) refl

-- What is read, up to the rest, is a spelling: a whole declaration, or the head of a function before a block.
pub record WholeTaken (defs : List Name) (most : ℕ) (ts : List Token) (y : Ext) (after : List Token) : Type 0 where
  pub written : WrittenExt
  pub declaration : is_declaration written ≡ true
  pub levelled : IsExt defs written
  pub plain_is : plain_ext written ≡ y
  pub tokens : ts ≡ spell_ext written after
  pub low : ext_depth y ≤ most

pub record HeadTaken (defs : List Name) (most : ℕ) (ts : List Token) (y : FuncHead) (after : List Token) : Type 0 where
  pub written : WrittenHead
  pub levelled : IsFuncHead defs written
  pub plain_is : plain_head written ≡ y
  pub tokens : ts ≡ spell_head written after
  pub low : head_depth y ≤ most
  pub rest : List Token
  pub block : eat open_brace after ≡ Some rest

abbrev pub OutsideTaken : List Name → ℕ → List Token → e.Outside → List Token → Type 0
OutsideTaken defs most ts (e.whole y) after = WholeTaken defs most ts y after
OutsideTaken defs most ts (e.head h) after = HeadTaken defs most ts h after

module _ (defs : List Name) (most : ℕ) (positive : 1 ≤ most) (expr : ℕ → List Token → Read Expr)
    (expr_takes : (l : ℕ) (ts : List Token) (x : Expr × List Token) → 1 ≤ l → l ≤ 3 → expr l ts ≡ Some x → Spells defs l x.0 ts x.1 × (expr_depth x.0 ≤ most)) where
  whole_takes : (ts : List Token) (o : Read Ext) (y : e.Outside × List Token) → ((z : Ext × List Token) → o ≡ Some z → WholeTaken defs most ts z.0 z.1) → e.whole_at o ≡ Some y → OutsideTaken defs most ts y.0 y.1
  whole_takes ts None y takes is = cc
  whole_takes ts (Some z) y takes is = rw (← some_is is) (takes z refl)

  head_takes : (ts : List Token) (o : Read FuncHead) (y : e.Outside × List Token) → ((z : FuncHead × List Token) → o ≡ Some z → HeadTaken defs most ts z.0 z.1) → e.head_at o ≡ Some y → OutsideTaken defs most ts y.0 y.1
  head_takes ts None y takes is = cc
  head_takes ts (Some z) y takes is = rw (← some_is is) (takes z refl)

  tag_only_takes : (ts : List Token) (f : Found × List Token) (after : List Token) (o : Option TagSpec) (y : Ext × List Token) → WordsTaken defs ts f → eat semicolon f.1 ≡ Some after → e.only_tag f.0 ≡ o
      → e.tag_only_by defs most expr (line_at ts) o after ≡ Some y → WholeTaken defs most ts y.0 y.1
  tag_only_takes ts f after None y ws at found_is is = cc
  tag_only_takes ts f after (Some z) y ws at found_is is =
      let m = eat_takes semicolon f.1 after at in
      let one = only_tag_is defs ws.0 f.0 z ws.1 ws.2 found_is in
      let c = grown_takes ext_depth most (u.tag_only (line_at ts) z) after y is in
      let line : tag_line one.written ≡ line_at ts = one.line_is ∙ sym (specs_line_at ws.0 f.1 one.some) ∙ ap line_at (sym ws.3) in
      let read : WholeTaken defs most ts (u.tag_only (line_at ts) z) after = record {
        written = n.tag_only one.written m.0;
        declaration = refl;
        levelled = one.levelled;
        plain_is = ap (λ j. u.tag_only j (plain_tag one.written)) line ∙ ap (u.tag_only (line_at ts)) one.plain_is;
        tokens = ws.3 ∙ one.tokens f.1 ∙ ap (spell_tag one.written) m.2;
        low = c.1;
      } in
      rw (← c.0) read

  typedef_takes : (ts : List Token) (f : Found × List Token) (o : Option (Option Types)) (y : Ext × List Token) → WordsTaken defs ts f → e.typedef_types f.0 ≡ o
      → e.typedef_by defs most expr (line_at ts) o f.1 ≡ Some y → WholeTaken defs most ts y.0 y.1
  typedef_takes ts f None y ws found_is is = cc
  typedef_takes ts f (Some z) y ws found_is is =
      let one = typedef_types_are defs ws.0 f.0 z ws.1 ws.2 found_is in
      let b = bind_some (separated (r.plain_declr defs most expr) (length f.1) f.1) (λ ds. eat semicolon ds.1 >>= λ after. grown ext_depth most (u.typedef (line_at ts) z ds.0) after) y is in
      let ds = declrs_take defs most positive expr expr_takes (length f.1) f.1 b.0 b.1 in
      let c = bind_some (eat semicolon b.0.1) (λ after. grown ext_depth most (u.typedef (line_at ts) z b.0.0) after) y b.2 in
      let m = eat_takes semicolon b.0.1 c.0 c.1 in
      let k = grown_takes ext_depth most (u.typedef (line_at ts) z b.0.0) c.0 y c.2 in
      let line : first_line ws.0 ≡ line_at ts = sym (specs_line_at ws.0 f.1 (typedef_some ws.0 (one.0.one_typedef))) ∙ ap line_at (sym ws.3) in
      let read : WholeTaken defs most ts (u.typedef (line_at ts) z b.0.0) c.0 = record {
        written = n.typedef ws.0 ds.0 m.0;
        declaration = refl;
        levelled = (one.0, ds.1);
        plain_is = ap (λ j. u.typedef j (plain_types ws.0) (listed plain_declr ds.0)) line ∙ ap (λ v. u.typedef (line_at ts) v (listed plain_declr ds.0)) one.1 ∙ ap (u.typedef (line_at ts) z) ds.2;
        tokens = ws.3 ∙ ap (spell_specs ws.0) (ds.3 ∙ ap (spell_separated spell_declr ds.0) m.2);
        low = k.1;
      } in
      rw (← k.0) read

  object_takes : (ts : List Token) (f : Found × List Token) (o : Option FileSpecs) (y : Ext × List Token) → WordsTaken defs ts f → e.file_specs f.0 ≡ o
      → e.object_by defs most expr (line_at ts) o f.1 ≡ Some y → WholeTaken defs most ts y.0 y.1
  object_takes ts f None y ws found_is is = cc
  object_takes ts f (Some z) y ws found_is is =
      let one = file_specs_are defs ws.0 f.0 z ws.1 ws.2 found_is in
      let b = bind_some (separated (i.item defs most expr) (length f.1) f.1) (λ qs. eat semicolon qs.1 >>= λ after. grown ext_depth most (u.object (line_at ts) z qs.0) after) y is in
      let qs = items_take defs most positive expr expr_takes (length f.1) f.1 b.0 b.1 in
      let c = bind_some (eat semicolon b.0.1) (λ after. grown ext_depth most (u.object (line_at ts) z b.0.0) after) y b.2 in
      let m = eat_takes semicolon b.0.1 c.0 c.1 in
      let k = grown_takes ext_depth most (u.object (line_at ts) z b.0.0) c.0 y c.2 in
      let line : first_line ws.0 ≡ line_at ts = sym (specs_line_at ws.0 f.1 (one.0.some)) ∙ ap line_at (sym ws.3) in
      let read : WholeTaken defs most ts (u.object (line_at ts) z b.0.0) c.0 = record {
        written = n.object ws.0 qs.0 m.0;
        declaration = refl;
        levelled = (one.0, qs.1);
        plain_is = ap (λ j. u.object j (plain_specs ws.0) (listed plain_item qs.0)) line ∙ ap (λ v. u.object (line_at ts) v (listed plain_item qs.0)) one.1 ∙ ap (u.object (line_at ts) z) qs.2;
        tokens = ws.3 ∙ ap (spell_specs ws.0) (qs.3 ∙ ap (spell_separated spell_item qs.0) m.2);
        low = k.1;
      } in
      rw (← k.0) read

  func_takes : (ts : List Token) (f : Found × List Token) (x : Declr × List Token) (o : Option (Option FileSpecs)) (y : FuncHead × List Token) → WordsTaken defs ts f → r.loose_declr defs most expr f.1 ≡ Some x
      → pick (named.declares_function x.0) (e.head_specs f.0) None ≡ o → e.head_by defs most expr (line_at ts) o x.0 x.1 ≡ Some y → HeadTaken defs most ts y.0 y.1
  func_takes ts f x None y ws at found_is is = cc
  func_takes ts f x (Some z) y ws at found_is is = elim (chosen (named.declares_function x.0) (e.head_specs f.0) None (Some z) found_is) [
    | inl h ↦
        let q = (loose_declr_takes defs most positive expr expr_takes f.1 x at).0 in
        let one = head_specs_are defs ws.0 f.0 z ws.1 ws.2 h.1 in
        let made : ℕ → Option FileSpecs → Declr → List t.ParDecl → FuncHead = λ j c v qs. record { line = j; specs = c; declr = v; params = qs } in
        let b = bind_some (e.pars defs most expr (suc (length x.1)) x.1) (λ qs. grown head_depth most (made (line_at ts) z x.0 qs.0) qs.1) y is in
        let qs = pars_take defs most positive expr expr_takes (suc (length x.1)) x.1 b.0 b.1 in
        let k = grown_takes head_depth most (made (line_at ts) z x.0 b.0.0) b.0.1 y b.2 in
        let tokens : ts ≡ spell_specs ws.0 (spell_declr q.written x.1) = ws.3 ∙ ap (spell_specs ws.0) q.tokens in
        let line : head_line ws.0 q.written ≡ line_at ts = sym (head_line_is ws.0 q.written x.1) ∙ ap line_at (sym tokens) in
        let read : HeadTaken defs most ts (made (line_at ts) z x.0 b.0.0) b.0.1 = record {
          written = record { parts = ws.0; declr = q.written; params = qs.written };
          levelled = (one.0, loose_head defs q.written q.loose (ap named.declares_function q.plain_is ∙ h.0), qs.levelled);
          plain_is = ap (λ j. made j (specs_or_none ws.0) (plain_declr q.written) (map plain_par qs.written)) line ∙ ap (λ c. made (line_at ts) c (plain_declr q.written) (map plain_par qs.written)) one.1
              ∙ ap (λ v. made (line_at ts) z v (map plain_par qs.written)) q.plain_is ∙ ap (made (line_at ts) z x.0) qs.plain_is;
          tokens = tokens ∙ ap (λ v. spell_specs ws.0 (spell_declr q.written v)) qs.tokens;
          low = k.1;
          rest = qs.rest;
          block = qs.block;
        } in
        rw (← k.0) read
    | inr h ↦ cc (h.1)
  ]

  declared_takes : (ts : List Token) (f : Found × List Token) (x : Declr × List Token) (b : Bool) (y : e.Outside × List Token) → WordsTaken defs ts f → r.loose_declr defs most expr f.1 ≡ Some x
      → e.declared_by defs most expr (line_at ts) f.0 f.1 x.0 x.1 b ≡ Some y → OutsideTaken defs most ts y.0 y.1
  declared_takes ts f x true y ws at is = whole_takes ts (e.object_by defs most expr (line_at ts) (e.file_specs f.0) f.1) y (λ z at1. object_takes ts f (e.file_specs f.0) z ws refl at1) is
  declared_takes ts f x false y ws at is =
      head_takes ts (e.head_by defs most expr (line_at ts) (pick (named.declares_function x.0) (e.head_specs f.0) None) x.0 x.1) y (λ z at1. func_takes ts f x (pick (named.declares_function x.0) (e.head_specs f.0) None) z ws at refl at1) is

  typed_takes : (ts : List Token) (f : Found × List Token) (b : Bool) (y : e.Outside × List Token) → WordsTaken defs ts f → e.typed_by defs most expr (line_at ts) f.0 f.1 b ≡ Some y → OutsideTaken defs most ts y.0 y.1
  typed_takes ts f false y ws is = whole_takes ts (e.typedef_by defs most expr (line_at ts) (e.typedef_types f.0) f.1) y (λ z at1. typedef_takes ts f (e.typedef_types f.0) z ws refl at1) is
  typed_takes ts f true y ws is =
      let b = bind_some (r.loose_declr defs most expr f.1) (λ x. e.declared_by defs most expr (line_at ts) f.0 f.1 x.0 x.1 (e.is_item x.1)) y is in
      declared_takes ts f b.0 (e.is_item b.0.1) y ws b.1 b.2

  outside_by_takes : (ts : List Token) (f : Found × List Token) (o : Option (List Token)) (y : e.Outside × List Token) → WordsTaken defs ts f → eat semicolon f.1 ≡ o → e.outside_by defs most expr (line_at ts) f.0 f.1 o ≡ Some y
      → OutsideTaken defs most ts y.0 y.1
  outside_by_takes ts f (Some after) y ws at is =
      whole_takes ts (e.tag_only_by defs most expr (line_at ts) (e.only_tag f.0) after) y (λ z at1. tag_only_takes ts f after (e.only_tag f.0) z ws at refl at1) is
  outside_by_takes ts f None y ws at is = typed_takes ts f (nat_eq f.0.typedefs 0) y ws is

  -- What is read outside of blocks is spelled so.
  pub outside_takes : (ts : List Token) (y : e.Outside × List Token) → e.outside defs most expr ts ≡ Some y → OutsideTaken defs most ts y.0 y.1
  outside_takes ts y is =
      let b = bind_some (s.file_words_at defs most expr ts) (λ f. e.outside_by defs most expr (line_at ts) f.0 f.1 (eat semicolon f.1)) y is in
      outside_by_takes ts b.0 (eat semicolon b.0.1) y (file_words_take defs most positive expr expr_takes (length ts) ts b.0 b.1) refl b.2
