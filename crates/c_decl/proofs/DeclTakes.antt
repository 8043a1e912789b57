-- What is read of the declarations of parameters and in blocks is spelled so.
use Rattle.std.proofs.Common.{◌≡◌, ℕ, ◌≤◌, zero, suc, List, [], ◌∷◌, length, map, Option, Some, None, Bool, true, false, nat_eq, ◌&&◌, refl, arith, ap, sym, ◌∙◌, inl, inr, true≢false}
use Rattle.std.proofs.lemmas.Bool.{eqb-true}
use Rattle.c_type.specs.Names.{Name, or_default}
use Rattle.c_lex.specs.Tokens.{Token}
use Rattle.c_tree.specs.declared.decl.Storage.{Storage}
use Rattle.c_grammar.specs.Words.{Separated, listed, mark, word, storage_word, register_word, open_brace, semicolon, spell_separated, AreAll}
use Rattle.c_tree.specs.TreeExpr.{Expr, expr_depth}
use Rattle.c_tree.specs.TreeExpr as x
use Rattle.c_tree.specs.TreeDecl.{Types, ParDecl, LocalSpecs, LocalDecl, par_depth, local_depth}
use Rattle.c_tree.specs.TreeDecl as t
use Rattle.c_grammar.specs.WrittenType.{TypePart, spelled, spell_part}
use Rattle.c_grammar.specs.WrittenDeclr.{WrittenDeclr, WrittenItem, plain_declr, plain_item, IsDeclr, IsItem, spell_declr, spell_item}
use Rattle.c_grammar.specs.WrittenSpecs.{Parts, storages, typedefs, type_parts, bodies, first_line, plain_def, plain_types, first_of, is_some, is_type_or_none, AreParts, AreTypes, spell_specs}
use Rattle.c_grammar.specs.WrittenSpecs as p
use Rattle.c_grammar.specs.WrittenDecl.{WrittenPar, LocalPart, WrittenLocal, plain_par, IsPar, spell_par, spell_register, local_storages, local_types, plain_local_specs, local_line, is_at_most_one, is_none, AreLocalParts, AreLocalSpecs, spell_local_parts, plain_local, IsLocal, spell_local}
use Rattle.c_grammar.specs.WrittenDecl as l
use Rattle.c_grammar.specs.WrittenUnit.{ArePars, spell_pars}
use Rattle.c_grammar.specs.Reads.{Spells}
use Rattle.c_expr.specs.Front.{Read, ◌>>=◌, eat, eat_word, line_at, grown}
use Rattle.c_decl.specs.Separated.{separated}
use Rattle.c_decl.specs.ReadDeclr as r
use Rattle.c_decl.specs.ReadInit as i
use Rattle.c_decl.specs.ReadSpecs.{Found, words, no_body, only_types}
use Rattle.c_decl.specs.ReadSpecs as s
use Rattle.c_decl.specs.ReadDecl as e
use Rattle.c_decl.proofs.SpecsAgain.{found}
use Rattle.c_decl.proofs.DeclAgain.{local_line_at}
use Rattle.c_expr.proofs.Taken.{some_is, bind_some, chosen, eat_takes, word_takes}
use Rattle.c_decl.proofs.SeparatedTakes.{grown_takes, separated_takes}
use Rattle.c_decl.proofs.InitTakes.{item_takes}
use Rattle.c_decl.proofs.SpecsTakes.{WordsTaken, words_take, only_is, both}
use Rattle.c_decl.proofs.BodiesTakes.{type_line, declrs_take, file_words_take}

-- ---- words in a block, where no tag has a body

abbrev localized : Parts → List LocalPart
localized p.no_parts = []
localized (p.more_parts (p.storage n c) ps) = l.storage n c ∷ localized ps
localized (p.more_parts (p.typedef n) ps) = localized ps
localized (p.more_parts (p.typed q) ps) = l.typed q ∷ localized ps
localized (p.more_parts (p.tagged b) ps) = localized ps

same_storages : (ps : Parts) → local_storages (localized ps) ≡ storages ps
same_storages p.no_parts = refl
same_storages (p.more_parts (p.storage n c) ps) = ap (λ cs. c ∷ cs) (same_storages ps)
same_storages (p.more_parts (p.typedef n) ps) = same_storages ps
same_storages (p.more_parts (p.typed q) ps) = same_storages ps
same_storages (p.more_parts (p.tagged b) ps) = same_storages ps

same_types : (ps : Parts) → local_types (localized ps) ≡ type_parts ps
same_types p.no_parts = refl
same_types (p.more_parts (p.storage n c) ps) = same_types ps
same_types (p.more_parts (p.typedef n) ps) = same_types ps
same_types (p.more_parts (p.typed q) ps) = ap (λ qs. q ∷ qs) (same_types ps)
same_types (p.more_parts (p.tagged b) ps) = same_types ps

local_parts : (defs : List Name) (ps : Parts) → AreParts defs ps → AreLocalParts defs (localized ps)
local_parts defs p.no_parts ok = tt
local_parts defs (p.more_parts (p.storage n c) ps) ok = local_parts defs ps ok
local_parts defs (p.more_parts (p.typedef n) ps) ok = local_parts defs ps ok
local_parts defs (p.more_parts (p.typed q) ps) ok = (ok.0, local_parts defs ps ok.1)
local_parts defs (p.more_parts (p.tagged b) ps) ok = local_parts defs ps ok.1

same_tokens : (ps : Parts) (ts : List Token) → typedefs ps ≡ 0 → length (bodies ps) ≤ 0 → spell_specs ps ts ≡ spell_local_parts (localized ps) ts
same_tokens p.no_parts ts no_typedef no_bodies = refl
same_tokens (p.more_parts (p.storage n c) ps) ts no_typedef no_bodies = ap (λ y. word n (storage_word c) ∷ y) (same_tokens ps ts no_typedef no_bodies)
same_tokens (p.more_parts (p.typedef n) ps) ts no_typedef no_bodies = absurd (omega (arith, no_typedef))
same_tokens (p.more_parts (p.typed q) ps) ts no_typedef no_bodies = ap (spell_part q) (same_tokens ps ts no_typedef no_bodies)
same_tokens (p.more_parts (p.tagged b) ps) ts no_typedef no_bodies = absurd (omega (arith, no_bodies))

any_some : (qs : List LocalPart) → e.is_any (local_storages qs) (local_types qs) [] ≡ true → is_none qs ≡ false
any_some [] is = absurd (true≢false (sym is))
any_some (q ∷ qs) is = refl

no_longer : {A B : Type 0} (f : A → B) (as_ : List A) → length (map f as_) ≡ 0 → length as_ ≤ 0
no_longer f [] is = omega arith
no_longer f (a ∷ as_) is = absurd (omega (arith, is))

record LocalWords (ps : Parts) (c : LocalSpecs) : Type 0 where
  some : is_none (localized ps) ≡ false
  no_typedef : typedefs ps ≡ 0
  no_bodies : length (bodies ps) ≤ 0
  storage : is_at_most_one (local_storages (localized ps)) ≡ true
  types : is_type_or_none 0 (local_types (localized ps)) ≡ true
  specs_are : plain_local_specs (localized ps) ≡ c

local_words : (ps : Parts) (f : Found) (c : LocalSpecs) → found ps ≡ f → e.local_specs f ≡ Some c → LocalWords ps c
local_words ps f c same is =
    let at : e.local_specs (found ps) ≡ Some c = ap e.local_specs same ∙ is in
    elim (chosen (e.is_any (storages ps) (type_parts ps) [] && (nat_eq (typedefs ps) 0 && (nat_eq (length (map plain_def (bodies ps))) 0 && (is_at_most_one (storages ps) && is_type_or_none 0 (type_parts ps)))))
    (Some (record { storage = first_of (storages ps); types = spelled (type_parts ps) })) None (Some c) at) [
      | inl h ↦
          let a = both (e.is_any (storages ps) (type_parts ps) []) _ h.0 in
          let b = both (nat_eq (typedefs ps) 0) _ a.1 in
          let d = both (nat_eq (length (map plain_def (bodies ps))) 0) _ b.1 in
          let g = both (is_at_most_one (storages ps)) _ d.1 in
          let made : List Storage → List TypePart → LocalSpecs = λ cs qs. record { storage = first_of cs; types = spelled qs } in
          record {
            some = any_some (localized ps) (ap (λ cs. e.is_any cs (local_types (localized ps)) []) (same_storages ps) ∙ ap (λ qs. e.is_any (storages ps) qs []) (same_types ps) ∙ a.0);
            no_typedef = eqb-true (typedefs ps) 0 b.0;
            no_bodies = no_longer plain_def (bodies ps) (eqb-true (length (map plain_def (bodies ps))) 0 d.0);
            storage = ap is_at_most_one (same_storages ps) ∙ g.0;
            types = ap (is_type_or_none 0) (same_types ps) ∙ g.1;
            specs_are = ap (λ cs. made cs (local_types (localized ps))) (same_storages ps) ∙ ap (made (storages ps)) (same_types ps) ∙ some_is h.1;
          }
      | inr h ↦ cc (h.1)
    ]

module _ (defs : List Name) (most : ℕ) (positive : 1 ≤ most) (expr : ℕ → List Token → Read Expr)
    (expr_takes : (l : ℕ) (ts : List Token) (x : Expr × List Token) → 1 ≤ l → l ≤ 3 → expr l ts ≡ Some x → Spells defs l x.0 ts x.1 × (expr_depth x.0 ≤ most)) where
  -- what is read of items is spelled so
  pub items_take : (n : ℕ) (ts : List Token) (xs : List t.Item × List Token) → separated (i.item defs most expr) n ts ≡ Some xs
      → (v : Separated WrittenItem) × AreAll (IsItem defs) v × (listed plain_item v ≡ xs.0) × (ts ≡ spell_separated spell_item v xs.1)
  items_take n ts xs is = separated_takes plain_item spell_item (i.item defs most expr) (IsItem defs) (item_takes defs most positive expr expr_takes) n ts xs is

  -- ---- parameters

  record ParTaken (l1 : ℕ) (register : Bool) (ts : List Token) (y : ParDecl × List Token) : Type 0 where
    parts : Parts
    declrs : Separated WrittenDeclr
    line : ℕ
    are_types : AreTypes defs parts
    are_declrs : AreAll (IsDeclr defs) declrs
    plain_is : record { line = l1; register = register; types = or_default (t.spec x.void) (plain_types parts); declrs = listed plain_declr declrs } ≡ y.0
    line_is : first_line parts ≡ line_at ts
    tokens : ts ≡ spell_specs parts (spell_separated spell_declr declrs (mark line semicolon ∷ y.1))

  par_by_takes : (l1 : ℕ) (register : Bool) (ts : List Token) (f : Found × List Token) (o : Option Types) (y : ParDecl × List Token) → WordsTaken defs ts f → only_types f.0 ≡ o
      → e.par_by defs most expr l1 register o f.1 ≡ Some y → ParTaken l1 register ts y
  par_by_takes l1 register ts f None y ws at is = cc
  par_by_takes l1 register ts f (Some z) y ws at is =
      let made : Types → List t.Declr → ParDecl = λ v ds. record { line = l1; register = register; types = v; declrs = ds } in
      let one = only_is ws.0 f.0 z ws.2 at in
      let b = bind_some (separated (r.plain_declr defs most expr) (length f.1) f.1) (λ ds. eat semicolon ds.1 >>= λ after. grown par_depth most (made z ds.0) after) y is in
      let ds = declrs_take defs most positive expr expr_takes (length f.1) f.1 b.0 b.1 in
      let c = bind_some (eat semicolon b.0.1) (λ after. grown par_depth most (made z b.0.0) after) y b.2 in
      let m = eat_takes semicolon b.0.1 c.0 c.1 in
      let g = grown_takes par_depth most (made z b.0.0) c.0 y c.2 in
      let read : ParTaken l1 register ts (made z b.0.0, c.0) = record {
        parts = ws.0;
        declrs = ds.0;
        line = m.0;
        are_types = record { no_storage = one.no_storage; no_typedef = one.no_typedef; types = one.type; parts = ws.1 };
        are_declrs = ds.1;
        plain_is = ap (λ v. made v (listed plain_declr ds.0)) one.type_is ∙ ap (made z) ds.2;
        line_is = type_line ws.0 z ts f.1 one ws.3;
        tokens = ws.3 ∙ ap (spell_specs ws.0) (ds.3 ∙ ap (spell_separated spell_declr ds.0) m.2);
      } in
      rw (← g.0) read

  par_behind_takes : (l1 : ℕ) (register : Bool) (ts : List Token) (y : ParDecl × List Token) → e.par_behind defs most expr l1 register ts ≡ Some y → ParTaken l1 register ts y
  par_behind_takes l1 register ts y is =
      let b = bind_some (s.file_words_at defs most expr ts) (λ f. e.par_by defs most expr l1 register (only_types f.0) f.1) y is in
      par_by_takes l1 register ts b.0 (only_types b.0.0) y (file_words_take defs most positive expr expr_takes (length ts) ts b.0 b.1) refl b.2

  abbrev ParSpelled : List Token → ParDecl × List Token → Type 0
  ParSpelled ts y = (v : WrittenPar) × IsPar defs v × (plain_par v ≡ y.0) × (ts ≡ spell_par v y.1)

  register_takes : (ts : List Token) (o : Option (List Token)) (y : ParDecl × List Token) → eat_word register_word ts ≡ o → e.register_by defs most expr ts o ≡ Some y → ParSpelled ts y
  register_takes ts (Some after) y at is =
      let f = word_takes register_word ts after at in
      let q = par_behind_takes (line_at ts) true after y is in
      let made : ℕ → ParDecl = λ l1. record { line = l1; register = true; types = or_default (t.spec x.void) (plain_types q.parts); declrs = listed plain_declr q.declrs } in
      (record { register = Some f.0; parts = q.parts; declrs = q.declrs; line = q.line }, (q.are_types, q.are_declrs), ap made (sym f.1) ∙ q.plain_is, f.2 ∙ ap (λ v. word f.0 register_word ∷ v) q.tokens)
  register_takes ts None y at is =
      let q = par_behind_takes (line_at ts) false ts y is in
      let made : ℕ → ParDecl = λ l1. record { line = l1; register = false; types = or_default (t.spec x.void) (plain_types q.parts); declrs = listed plain_declr q.declrs } in
      (record { register = None; parts = q.parts; declrs = q.declrs; line = q.line }, (q.are_types, q.are_declrs), ap made q.line_is ∙ q.plain_is, q.tokens)

  -- the declarations up to a block
  pub record ParsTaken (ts : List Token) (y : List ParDecl × List Token) : Type 0 where
    pub written : List WrittenPar
    pub levelled : ArePars defs written
    pub plain_is : map plain_par written ≡ y.0
    pub tokens : ts ≡ spell_pars written y.1
    pub rest : List Token
    pub block : eat open_brace y.1 ≡ Some rest

  pars_by_take : (more : List Token → Read (List ParDecl)) → ((ts : List Token) (y : List ParDecl × List Token) → more ts ≡ Some y → ParsTaken ts y)
      → (ts : List Token) (o : Option (List Token)) (y : List ParDecl × List Token) → eat open_brace ts ≡ o → e.pars_by defs most expr more ts o ≡ Some y → ParsTaken ts y
  pars_by_take more others ts (Some after) y at is =
      let read : ParsTaken ts ([], ts) = record { written = []; levelled = tt; plain_is = refl; tokens = refl; rest = after; block = at } in
      rw (← some_is is) read
  pars_by_take more others ts None y at is =
      let b = bind_some (e.par defs most expr ts) (λ q. more q.1 >>= λ qs. Some (q.0 ∷ qs.0, qs.1)) y is in
      let one = register_takes ts (eat_word register_word ts) b.0 refl b.1 in
      let c = bind_some (more b.0.1) (λ qs. Some (b.0.0 ∷ qs.0, qs.1)) y b.2 in
      let qs = others b.0.1 c.0 c.1 in
      let read : ParsTaken ts (b.0.0 ∷ c.0.0, c.0.1) = record {
        written = one.0 ∷ qs.written;
        levelled = (one.1, qs.levelled);
        plain_is = ap (λ v. v ∷ map plain_par qs.written) one.2 ∙ ap (λ vs. b.0.0 ∷ vs) qs.plain_is;
        tokens = one.3 ∙ ap (spell_par one.0) qs.tokens;
        rest = qs.rest;
        block = qs.block;
      } in
      rw (← some_is c.2) read

  pub pars_take : (j : ℕ) (ts : List Token) (y : List ParDecl × List Token) → e.pars defs most expr j ts ≡ Some y → ParsTaken ts y
  unfolding e.pars
  pars_take zero ts y is = cc
  pars_take (suc j) ts y is = pars_by_take (e.pars defs most expr j) (pars_take j) ts (eat open_brace ts) y refl is

  -- ---- declarations in a block

  pub record LocalTaken (ts : List Token) (y : LocalDecl × List Token) : Type 0 where
    pub written : WrittenLocal
    pub levelled : IsLocal defs written
    pub plain_is : plain_local written ≡ y.0
    pub tokens : ts ≡ spell_local written y.1
    pub low : local_depth y.0 ≤ most

  local_by_takes : (ts : List Token) (f : Found × List Token) (o : Option LocalSpecs) (y : LocalDecl × List Token) → WordsTaken defs ts f → e.local_specs f.0 ≡ o → e.local_by defs most expr (line_at ts) o f.1 ≡ Some y → LocalTaken ts y
  local_by_takes ts f None y ws at is = cc
  local_by_takes ts f (Some c) y ws at is =
      let made : LocalSpecs → List t.Item → LocalDecl = λ v qs. record { line = line_at ts; specs = v; items = qs } in
      let one = local_words ws.0 f.0 c ws.2 at in
      let b = bind_some (separated (i.item defs most expr) (length f.1) f.1) (λ qs. eat semicolon qs.1 >>= λ after. grown local_depth most (made c qs.0) after) y is in
      let qs = items_take (length f.1) f.1 b.0 b.1 in
      let d = bind_some (eat semicolon b.0.1) (λ after. grown local_depth most (made c b.0.0) after) y b.2 in
      let m = eat_takes semicolon b.0.1 d.0 d.1 in
      let g = grown_takes local_depth most (made c b.0.0) d.0 y d.2 in
      let tokens : ts ≡ spell_local_parts (localized ws.0) f.1 = ws.3 ∙ same_tokens ws.0 f.1 one.no_typedef one.no_bodies in
      let line : local_line (localized ws.0) ≡ line_at ts = sym (local_line_at (localized ws.0) f.1 one.some) ∙ ap line_at (sym tokens) in
      let with_line : ℕ → LocalDecl = λ l1. record { line = l1; specs = plain_local_specs (localized ws.0); items = listed plain_item qs.0 } in
      let read : LocalTaken ts (made c b.0.0, d.0) = record {
        written = record { parts = localized ws.0; items = qs.0; line = m.0 };
        levelled = (record { some = one.some; storage = one.storage; types = one.types; parts = local_parts defs ws.0 ws.1 }, qs.1);
        plain_is = ap with_line line ∙ ap (λ v. made v (listed plain_item qs.0)) one.specs_are ∙ ap (made c) qs.2;
        tokens = tokens ∙ ap (spell_local_parts (localized ws.0)) (qs.3 ∙ ap (spell_separated spell_item qs.0) m.2);
        low = g.1;
      } in
      rw (← g.0) read

  -- What is read of a declaration in a block is spelled so.
  pub local_takes : (ts : List Token) (y : LocalDecl × List Token) → e.local defs most expr ts ≡ Some y → LocalTaken ts y
  local_takes ts y is =
      let b = bind_some (words defs no_body (suc (length ts)) ts) (λ f. e.local_by defs most expr (line_at ts) (e.local_specs f.0) f.1) y is in
      local_by_takes ts b.0 (e.local_specs b.0.0) y (words_take defs no_body (λ kind l1 n ts1 y1 is1. cc) (suc (length ts)) ts b.0 b.1) refl b.2
