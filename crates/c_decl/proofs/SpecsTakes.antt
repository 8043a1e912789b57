-- What is read of the words before declarators is spelled so.
use Rattle.std.proofs.Common.{◌≡◌, ℕ, zero, suc, List, [], ◌∷◌, length, map, Option, Some, None, Bool, true, false, nat_eq, ◌&&◌, refl, ap, sym, ◌∙◌, inl, inr, true≢false}
use Rattle.std.proofs.lemmas.Bool.{eqb-true}
use Rattle.c_type.specs.Names.{Name, pick, or_default}
use Rattle.c_type.specs.declared.TagKind.{TagKind}
use Rattle.c_lex.specs.Tokens.{Tok, Token}
use Rattle.c_lex.specs.Tokens as k
use Rattle.c_tree.specs.declared.decl.Storage.{Storage}
use Rattle.c_grammar.specs.Words.{mark, tok, word, storage_word, tag_word, type_word, typedef_word, open_brace}
use Rattle.c_tree.specs.TreeExpr.{Expr, expr_depth}
use Rattle.c_tree.specs.TreeExpr as x
use Rattle.c_tree.specs.TreeDecl.{Types, TagDef, Mem, Mems, En, def_depth, mem_depth, en_depth}
use Rattle.c_tree.specs.TreeDecl as t
use Rattle.c_grammar.specs.WrittenType.{word_part, tag_part, name_part, is_typedef, has_spelling}
use Rattle.c_grammar.specs.WrittenDeclr.{Named, named, spell_named, plain_if, spell_if}
use Rattle.c_grammar.specs.WrittenSpecs.{Part, Parts, WrittenDef, WrittenMem, WrittenMems, WrittenEn, Value, storages, typedefs, type_parts, bodies, first_line, plain_value, plain_en, plain_def, plain_mems, plain_mem, plain_types, is_type, IsValue, IsEn, AreParts, IsDef, AreMems, IsMem, spell_value, spell_en, spell_specs, spell_def, spell_mems, spell_mem}
use Rattle.c_grammar.specs.WrittenSpecs as p
use Rattle.c_expr.specs.Front.{Read, eat, line_at, any_name}
use Rattle.c_decl.specs.ReadSpecs.{Found, nothing, Start, Word, with_word, word_start, start_of, start_at, behind, words, no_body, no_storage, only_types}
use Rattle.c_decl.specs.ReadSpecs as s
use Rattle.c_decl.proofs.SpecsAgain.{found}
use Rattle.c_decl.proofs.BodiesAgain.{bodies_count, types_are_found}
use Rattle.c_expr.proofs.Taken.{some_is, bind_some, chosen, eat_takes, any_takes}

-- ---- the token that begins a word

abbrev IsWord : ℕ → Start → Type 0
IsWord v (s.storage c) = v ≡ storage_word c
IsWord v s.typedef = v ≡ typedef_word
IsWord v (s.typed y) = v ≡ type_word y
IsWord v (s.tag kind) = (has_spelling kind ≡ true) × (v ≡ tag_word kind)
IsWord v (s.named n) = ⊥
IsWord v s.ends = Unit {0}

pick_all : (P : Start → Type 0) (b : Bool) (y z : Start) → (b ≡ true → P y) → P z → P (pick b y z)
pick_all P true y z yes_one no_one = yes_one refl
pick_all P false y z yes_one no_one = no_one

word_start_is : (v : ℕ) → IsWord v (word_start v)
word_start_is v =
    pick_all (IsWord v) (nat_eq v 0) _ _ (eqb-true v 0) (pick_all (IsWord v) (nat_eq v 14) _ _ (eqb-true v 14) (pick_all (IsWord v) (nat_eq v 18) _ _ (eqb-true v 18) (pick_all (IsWord v) (nat_eq v 9) _ _ (eqb-true v 9)
    (pick_all (IsWord v) (nat_eq v 21) _ _ (eqb-true v 21) (pick_all (IsWord v) (nat_eq v 22) _ _ (eqb-true v 22) (pick_all (IsWord v) (nat_eq v 3) _ _ (eqb-true v 3) (pick_all (IsWord v) (nat_eq v 16) _ _ (eqb-true v 16)
    (pick_all (IsWord v) (nat_eq v 13) _ _ (eqb-true v 13) (pick_all (IsWord v) (nat_eq v 12) _ _ (eqb-true v 12) (pick_all (IsWord v) (nat_eq v 23) _ _ (eqb-true v 23)
    (pick_all (IsWord v) (nat_eq v 19) _ _ (λ e. (refl, eqb-true v 19 e)) (pick_all (IsWord v) (nat_eq v 8) _ _ (λ e. (refl, eqb-true v 8 e)) tt))))))))))))

-- what the token at the front is
abbrev pub StartTaken : List Name → List Token → Start → Type 0
StartTaken defs ts (s.storage c) = ts ≡ word (line_at ts) (storage_word c) ∷ behind ts
StartTaken defs ts s.typedef = ts ≡ word (line_at ts) typedef_word ∷ behind ts
StartTaken defs ts (s.typed y) = ts ≡ word (line_at ts) (type_word y) ∷ behind ts
StartTaken defs ts (s.tag kind) = (has_spelling kind ≡ true) × (ts ≡ word (line_at ts) (tag_word kind) ∷ behind ts)
StartTaken defs ts (s.named n) = (is_typedef defs n ≡ true) × (ts ≡ tok (line_at ts) (k.name n) ∷ behind ts)
StartTaken defs ts s.ends = Unit {0}

word_taken : (defs : List Name) (y : Token) (ts : List Token) (v : ℕ) (st : Start) → y.kind ≡ k.word v → IsWord v st → StartTaken defs (y ∷ ts) st
word_taken defs y ts v (s.storage c) is same = ap (λ z. tok y.line z ∷ ts) (is ∙ ap k.word same)
word_taken defs y ts v s.typedef is same = ap (λ z. tok y.line z ∷ ts) (is ∙ ap k.word same)
word_taken defs y ts v (s.typed u) is same = ap (λ z. tok y.line z ∷ ts) (is ∙ ap k.word same)
word_taken defs y ts v (s.tag kind) is same = (same.0, ap (λ z. tok y.line z ∷ ts) (is ∙ ap k.word same.1))
word_taken defs y ts v (s.named n) is same = absurd same
word_taken defs y ts v s.ends is same = tt

named_taken : (defs : List Name) (y : Token) (ts : List Token) (n : Name) (b : Bool) → y.kind ≡ k.name n → is_typedef defs n ≡ b → StartTaken defs (y ∷ ts) (pick b (s.named n) s.ends)
named_taken defs y ts n true is test = (test, ap (λ z. tok y.line z ∷ ts) is)
named_taken defs y ts n false is test = tt

tok_taken : (defs : List Name) (y : Token) (ts : List Token) (c : Tok) → y.kind ≡ c → StartTaken defs (y ∷ ts) (start_of defs c)
tok_taken defs y ts (k.name n) is = named_taken defs y ts n (is_typedef defs n) is refl
tok_taken defs y ts (k.int n long) is = tt
tok_taken defs y ts (k.chr n) is = tt
tok_taken defs y ts (k.text bytes) is = tt
tok_taken defs y ts (k.word v) is = word_taken defs y ts v (word_start v) is (word_start_is v)
tok_taken defs y ts (k.mark m) is = tt

start_taken : (defs : List Name) (ts : List Token) → StartTaken defs ts (start_at defs ts)
start_taken defs [] = tt
start_taken defs (y ∷ ts) = tok_taken defs y ts y.kind refl

-- ---- words

-- The tokens up to `after` spell the words.
abbrev pub WordsTaken : List Name → List Token → Found × List Token → Type 0
WordsTaken defs ts y = (ps : Parts) × AreParts defs ps × (found ps ≡ y.0) × (ts ≡ spell_specs ps y.1)

-- a word that is taken is a part that spells it, and nothing is taken where none is
abbrev pub PartTaken : List Name → List Token → Option Word → List Token → Type 0
PartTaken defs ts None after = ts ≡ after
PartTaken defs ts (Some v) after =
    (q : Part) × ((ps : Parts) → AreParts defs ps → AreParts defs (p.more_parts q ps)) × ((ps : Parts) → found (p.more_parts q ps) ≡ with_word v (found ps))
    × ((ps : Parts) (us : List Token) → after ≡ spell_specs ps us → ts ≡ spell_specs (p.more_parts q ps) us)

abbrev pub WordTaken : List Name → List Token → Option Word × List Token → Type 0
WordTaken defs ts y = PartTaken defs ts y.0 y.1

-- a body behind its brace, for each name and each line of the brace
abbrev pub BodyTaken : List Name → TagKind → ℕ → Option Name → List Token → TagDef × List Token → Type 0
BodyTaken defs kind l n ts y =
    (make : Option Named → ℕ → WrittenDef) × ((z : Option Named) (m : ℕ) → plain_if named z ≡ n
    → IsDef defs (make z m) × (plain_def (make z m) ≡ y.0) × (word l (tag_word kind) ∷ spell_if spell_named z (mark m open_brace ∷ ts) ≡ spell_def (make z m) y.1))

module _ (defs : List Name) (body : TagKind → ℕ → Option Name → List Token → Read TagDef)
    (body_takes : (kind : TagKind) (l : ℕ) (n : Option Name) (ts : List Token) (y : TagDef × List Token) → body kind l n ts ≡ Some y → BodyTaken defs kind l n ts y) where
  body_step : (kind : TagKind) (l : ℕ) (z : Option Named) (m : ℕ) (ts : List Token) (y : Option Word × List Token) → s.word_body defs body kind l (plain_if named z) ts ≡ Some y
      → WordTaken defs (word l (tag_word kind) ∷ spell_if spell_named z (mark m open_brace ∷ ts)) y
  body_step kind l z m ts y is =
      let b = bind_some (body kind l (plain_if named z) ts) (λ e. Some (Some (s.body_word e.0), e.1)) y is in
      let e = (body_takes kind l (plain_if named z) ts b.0 b.1).1 z m refl in
      let one : WrittenDef = (body_takes kind l (plain_if named z) ts b.0 b.1).0 z m in
      let read : WordTaken defs (word l (tag_word kind) ∷ spell_if spell_named z (mark m open_brace ∷ ts)) (Some (s.body_word b.0.0), b.0.1) = (
        p.tagged one,
        λ ps ok. (e.0, ok),
        λ ps. ap (λ v. with_word (s.body_word v) (found ps)) e.1,
        λ ps us same. e.2 ∙ ap (spell_def one) same,
      ) in
      rw (← some_is b.2) read

  tag_takes : (kind : TagKind) (l m : ℕ) (n : Name) (ts : List Token) (o : Option (List Token)) (y : Option Word × List Token) → has_spelling kind ≡ true → eat open_brace ts ≡ o → s.tag_by defs body kind l m n ts o ≡ Some y
      → WordTaken defs (word l (tag_word kind) ∷ tok m (k.name n) ∷ ts) y
  tag_takes kind l m n ts (Some after) y ok at is =
      let f = eat_takes open_brace ts after at in
      rw f.2 (body_step kind l (Some (record { line = m; name = n })) f.0 after y is)
  tag_takes kind l m n ts None y ok at is =
      let read : WordTaken defs (word l (tag_word kind) ∷ tok m (k.name n) ∷ ts) (Some (s.type_part (tag_part l kind m n)), ts) =
      (p.typed (tag_part l kind m n), λ ps oks. (ok, oks), λ ps. refl, λ ps us same. ap (λ v. word l (tag_word kind) ∷ tok m (k.name n) ∷ v) same) in
      rw (← some_is is) read

  tagged_takes : (kind : TagKind) (l : ℕ) (ts : List Token) (o : Read Name) (y : Option Word × List Token) → has_spelling kind ≡ true → any_name ts ≡ o → s.tagged_by defs body kind l ts o ≡ Some y
      → WordTaken defs (word l (tag_word kind) ∷ ts) y
  tagged_takes kind l ts (Some n) y ok at is =
      let f = any_takes ts n at in
      let read = tag_takes kind l (line_at ts) n.0 n.1 (eat open_brace n.1) y ok refl is in
      rw (f.2 ∙ ap (λ j. tok j (k.name n.0) ∷ n.1) (sym f.1)) read
  tagged_takes kind l ts None y ok at is =
      let c = bind_some (eat open_brace ts) (λ after. s.word_body defs body kind l None after) y is in
      let f = eat_takes open_brace ts c.0 c.1 in
      rw f.2 (body_step kind l None f.0 c.0 y c.2)

  word_by_takes : (ts : List Token) (st : Start) (y : Option Word × List Token) → StartTaken defs ts st → s.word_by defs body (line_at ts) (behind ts) ts st ≡ Some y → WordTaken defs ts y
  word_by_takes ts (s.storage c) y at is =
      let read : WordTaken defs ts (Some (s.storage_word c), behind ts) =
      (p.storage (line_at ts) c, λ ps ok. ok, λ ps. refl, λ ps us same. at ∙ ap (λ v. word (line_at ts) (storage_word c) ∷ v) same) in
      rw (← some_is is) read
  word_by_takes ts s.typedef y at is =
      let read : WordTaken defs ts (Some s.typedef_word, behind ts) =
      (p.typedef (line_at ts), λ ps ok. ok, λ ps. refl, λ ps us same. at ∙ ap (λ v. word (line_at ts) typedef_word ∷ v) same) in
      rw (← some_is is) read
  word_by_takes ts (s.typed u) y at is =
      let read : WordTaken defs ts (Some (s.type_part (word_part (line_at ts) u)), behind ts) =
      (p.typed (word_part (line_at ts) u), λ ps ok. (tt, ok), λ ps. refl, λ ps us same. at ∙ ap (λ v. word (line_at ts) (type_word u) ∷ v) same) in
      rw (← some_is is) read
  word_by_takes ts (s.tag kind) y at is = rw (at.1) (tagged_takes kind (line_at ts) (behind ts) (any_name (behind ts)) y at.0 refl is)
  word_by_takes ts (s.named n) y at is =
      let read : WordTaken defs ts (Some (s.type_part (name_part (line_at ts) n)), behind ts) =
      (p.typed (name_part (line_at ts) n), λ ps ok. (at.0, ok), λ ps. refl, λ ps us same. at.1 ∙ ap (λ v. tok (line_at ts) (k.name n) ∷ v) same) in
      rw (← some_is is) read
  word_by_takes ts s.ends y at is =
      let read : WordTaken defs ts (None, ts) = refl in
      rw (← some_is is) read

  words_by_take : (more : List Token → Read Found) → ((ts : List Token) (y : Found × List Token) → more ts ≡ Some y → WordsTaken defs ts y)
      → (ts : List Token) (o : Option Word) (after : List Token) (y : Found × List Token) → WordTaken defs ts (o, after) → s.words_by defs body more o after ≡ Some y → WordsTaken defs ts y
  words_by_take more more_takes ts None after y taken is =
      let read : WordsTaken defs ts (nothing, after) = (p.no_parts, tt, refl, taken) in
      rw (← some_is is) read
  words_by_take more more_takes ts (Some v) after y taken is =
      let b = bind_some (more after) (λ f. Some (with_word v f.0, f.1)) y is in
      let rest = more_takes after b.0 b.1 in
      let read : WordsTaken defs ts (with_word v b.0.0, b.0.1) =
      (p.more_parts taken.0 rest.0, taken.1 rest.0 rest.1, taken.2 rest.0 ∙ ap (with_word v) rest.2, taken.3 rest.0 b.0.1 rest.3) in
      rw (← some_is b.2) read

  pub words_take : (j : ℕ) (ts : List Token) (y : Found × List Token) → words defs body j ts ≡ Some y → WordsTaken defs ts y
  unfolding words
  words_take zero ts y is = cc
  words_take (suc j) ts y is =
      let b = bind_some (s.word defs body ts) (λ v. s.words_by defs body (words defs body j) v.0 v.1) y is in
      words_by_take (words defs body j) (words_take j) ts b.0.0 b.0.1 y (word_by_takes ts (start_at defs ts) b.0 (start_taken defs ts) b.1) b.2

-- ---- the type that is found

pub both : (a b : Bool) → (a && b) ≡ true → (a ≡ true) × (b ≡ true)
both true true is = (refl, refl)
both true false is = absurd (true≢false (sym is))
both false b is = absurd (true≢false (sym is))

pub none_stored : (cs : List Storage) → no_storage cs ≡ true → cs ≡ []
none_stored [] is = refl
none_stored (c ∷ cs) is = absurd (true≢false (sym is))

pub record OneType (ps : Parts) (y : Types) : Type 0 where
  pub no_storage : storages ps ≡ []
  pub no_typedef : typedefs ps ≡ 0
  pub type : is_type (length (bodies ps)) (type_parts ps) ≡ true
  pub type_is : or_default (t.spec x.void) (plain_types ps) ≡ y

pub only_is : (ps : Parts) (f : Found) (y : Types) → found ps ≡ f → only_types f ≡ Some y → OneType ps y
only_is ps f y same is =
    let at : only_types (found ps) ≡ Some y = ap only_types same ∙ is in
    elim (chosen (no_storage (storages ps) && (nat_eq (typedefs ps) 0 && is_type (length (map plain_def (bodies ps))) (type_parts ps))) (s.types_found (found ps)) None (Some y) at) [
      | inl h ↦
          let a = both (no_storage (storages ps)) (nat_eq (typedefs ps) 0 && is_type (length (map plain_def (bodies ps))) (type_parts ps)) h.0 in
          let b = both (nat_eq (typedefs ps) 0) (is_type (length (map plain_def (bodies ps))) (type_parts ps)) a.1 in
          record {
            no_storage = none_stored (storages ps) a.0;
            no_typedef = eqb-true (typedefs ps) 0 b.0;
            type = ap (λ n. is_type n (type_parts ps)) (sym (bodies_count (bodies ps))) ∙ b.1;
            type_is = ap (or_default (t.spec x.void)) (sym (types_are_found ps) ∙ h.1);
          }
      | inr h ↦ cc (h.1)
    ]
