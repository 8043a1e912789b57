-- What is read of tags' bodies, and so of all words outside of blocks, is spelled so.
use Rattle.std.proofs.Common.{◌≡◌, ℕ, ◌≤◌, zero, suc, List, ◌∷◌, length, Option, Some, None, false, refl, arith, ap, sym, ◌∙◌}
use Rattle.c_type.specs.Names.{Name, or_default}
use Rattle.c_type.specs.declared.TagKind.{TagKind}
use Rattle.c_type.specs.declared.TagKind.TheVariants.{Struct, Union, Enum}
use Rattle.c_lex.specs.Tokens.{Token}
use Rattle.c_lex.specs.Tokens as k
use Rattle.c_grammar.specs.Words.{Separated, listed, mark, tok, word, tag_word, open_brace, close_brace, semicolon, equals, spell_separated, AreAll}
use Rattle.c_tree.specs.TreeExpr.{Expr, expr_depth}
use Rattle.c_tree.specs.TreeExpr as x
use Rattle.c_tree.specs.TreeDecl.{Types, TagDef, Mem, Mems, En, def_depth, mem_depth, en_depth}
use Rattle.c_tree.specs.TreeDecl as t
use Rattle.c_grammar.specs.WrittenType.{is_typedef}
use Rattle.c_grammar.specs.WrittenDeclr.{spell_named, WrittenDeclr, plain_declr, IsDeclr, spell_declr, spell_if}
use Rattle.c_grammar.specs.WrittenSpecs.{Parts, WrittenDef, WrittenMem, WrittenMems, WrittenEn, bodies, type_parts, first_line, plain_en, plain_def, plain_mems, plain_mem, plain_types, IsDef, IsEn, AreMems, IsMem, spell_en, spell_specs, spell_def, spell_mems, spell_mem}
use Rattle.c_grammar.specs.WrittenSpecs as p
use Rattle.c_grammar.specs.Reads.{Spells}
use Rattle.c_expr.specs.Front.{Read, ◌>>=◌, eat, line_at, name_at, grown}
use Rattle.c_decl.specs.Separated.{separated}
use Rattle.c_decl.specs.ReadDeclr as r
use Rattle.c_decl.specs.ReadSpecs.{Found, words, no_body, only_types}
use Rattle.c_decl.specs.ReadSpecs as s
use Rattle.c_decl.proofs.BodiesAgain.{not_empty, specs_line_at}
use Rattle.c_expr.proofs.Taken.{some_is, bind_some, eat_takes, name_takes}
use Rattle.c_decl.proofs.SeparatedTakes.{grown_takes, separated_takes}
use Rattle.c_decl.proofs.DeclrTakes.{plain_declr_takes}
use Rattle.c_decl.proofs.SpecsTakes.{WordsTaken, BodyTaken, words_take, OneType, only_is}

-- the line of words that are a type
pub type_line : (ps : Parts) (y : Types) (ts after : List Token) → OneType ps y → ts ≡ spell_specs ps after → first_line ps ≡ line_at ts
type_line ps y ts after one tokens = sym (specs_line_at ps after (not_empty ps one.type)) ∙ ap line_at (sym tokens)

module _ (defs : List Name) (most : ℕ) (positive : 1 ≤ most) (expr : ℕ → List Token → Read Expr)
    (expr_takes : (l : ℕ) (ts : List Token) (x : Expr × List Token) → 1 ≤ l → l ≤ 3 → expr l ts ≡ Some x → Spells defs l x.0 ts x.1 × (expr_depth x.0 ≤ most)) where
  abbrev EnTaken : List Token → En × List Token → Type 0
  EnTaken ts y = (v : WrittenEn) × IsEn defs v × (plain_en v ≡ y.0) × (ts ≡ spell_en v y.1)

  en_by_takes : (l : ℕ) (n : Name) (rest : List Token) (o : Option (List Token)) (y : En × List Token) → is_typedef defs n ≡ false → eat equals rest ≡ o → s.en_by defs most expr l n rest o ≡ Some y
      → EnTaken (tok l (k.name n) ∷ rest) y
  en_by_takes l n rest None y ok at is =
      let g = grown_takes en_depth most (record { line = l; name = n; value = None }) rest y is in
      let read : EnTaken (tok l (k.name n) ∷ rest) (record { line = l; name = n; value = None }, rest) = (record { line = l; name = n; value = None }, (ok, tt), refl, refl) in
      rw (← g.0) read
  en_by_takes l n rest (Some after) y ok at is =
      let f = eat_takes equals rest after at in
      let b = bind_some (expr 3 after) (λ e. grown en_depth most (record { line = l; name = n; value = Some e.0 }) e.1) y is in
      let e = (expr_takes 3 after b.0 (omega arith) (omega arith) b.1).0 in
      let g = grown_takes en_depth most (record { line = l; name = n; value = Some b.0.0 }) b.0.1 y b.2 in
      let value : Expr → En = λ v. record { line = l; name = n; value = Some v } in
      let read : EnTaken (tok l (k.name n) ∷ rest) (record { line = l; name = n; value = Some b.0.0 }, b.0.1) = (
        record { line = l; name = n; value = Some (record { line = f.0; value = e.written }) },
        (ok, e.levelled),
        ap value e.plain_is,
        ap (λ v. tok l (k.name n) ∷ v) (f.2 ∙ ap (λ v. mark f.0 equals ∷ v) e.tokens),
      ) in
      rw (← g.0) read

  en_takes : (ts : List Token) (y : En × List Token) → s.en defs most expr ts ≡ Some y → EnTaken ts y
  en_takes ts y is =
      let b = bind_some (name_at defs ts) (λ n. s.en_by defs most expr (line_at ts) n.0 n.1 (eat equals n.1)) y is in
      let f = name_takes defs ts b.0 b.1 in
      let read = en_by_takes (line_at ts) b.0.0 b.0.1 (eat equals b.0.1) y f.1 refl b.2 in
      let same : ts ≡ tok (line_at ts) (k.name b.0.0) ∷ b.0.1 = f.0.2 ∙ ap (λ l. tok l (k.name b.0.0) ∷ b.0.1) (sym f.0.1) in
      (read.0, read.1, read.2, same ∙ read.3)

  -- what is read of declarators is spelled so
  pub declrs_take : (n : ℕ) (ts : List Token) (xs : List t.Declr × List Token) → separated (r.plain_declr defs most expr) n ts ≡ Some xs
      → (v : Separated WrittenDeclr) × AreAll (IsDeclr defs) v × (listed plain_declr v ≡ xs.0) × (ts ≡ spell_separated spell_declr v xs.1)
  declrs_take n ts xs is = separated_takes plain_declr spell_declr (r.plain_declr defs most expr) (IsDeclr defs) (plain_declr_takes defs most positive expr expr_takes) n ts xs is

  abbrev MemTaken : List Token → Mem × List Token → Type 0
  MemTaken ts y = (v : WrittenMem) × IsMem defs v × (plain_mem v ≡ y.0) × (ts ≡ spell_mem v y.1)

  mem_by_takes : (ts : List Token) (f : Found × List Token) (o : Option Types) (y : Mem × List Token) → WordsTaken defs ts f → only_types f.0 ≡ o → s.mem_by defs most expr (line_at ts) o f.1 ≡ Some y → MemTaken ts y
  mem_by_takes ts f None y ws at is = cc
  mem_by_takes ts f (Some z) y ws at is =
      let one = only_is ws.0 f.0 z ws.2 at in
      let b = bind_some (separated (r.plain_declr defs most expr) (length f.1) f.1) (λ ds. eat semicolon ds.1 >>= λ after. grown mem_depth most (t.mem (line_at ts) z ds.0) after) y is in
      let ds = declrs_take (length f.1) f.1 b.0 b.1 in
      let c = bind_some (eat semicolon b.0.1) (λ after. grown mem_depth most (t.mem (line_at ts) z b.0.0) after) y b.2 in
      let m = eat_takes semicolon b.0.1 c.0 c.1 in
      let g = grown_takes mem_depth most (t.mem (line_at ts) z b.0.0) c.0 y c.2 in
      let read : MemTaken ts (t.mem (line_at ts) z b.0.0, c.0) = (
        p.mem ws.0 ds.0 m.0,
        (one.no_storage, one.no_typedef, one.type, ws.1, ds.1),
        ap (λ l. t.mem l (or_default (t.spec x.void) (plain_types ws.0)) (listed plain_declr ds.0)) (type_line ws.0 z ts f.1 one ws.3)
            ∙ ap (λ v. t.mem (line_at ts) v (listed plain_declr ds.0)) one.type_is ∙ ap (t.mem (line_at ts) z) ds.2,
        ws.3 ∙ ap (spell_specs ws.0) (ds.3 ∙ ap (spell_separated spell_declr ds.0) m.2),
      ) in
      rw (← g.0) read

  module _ (inner : List Token → Read Found) (inner_takes : (ts : List Token) (y : Found × List Token) → inner ts ≡ Some y → WordsTaken defs ts y) where
    mem_takes : (ts : List Token) (y : Mem × List Token) → s.mem defs most expr inner ts ≡ Some y → MemTaken ts y
    mem_takes ts y is =
        let b = bind_some (inner ts) (λ f. s.mem_by defs most expr (line_at ts) (only_types f.0) f.1) y is in
        mem_by_takes ts b.0 (only_types b.0.0) y (inner_takes ts b.0 b.1) refl b.2

    abbrev MemsTaken : List Token → Mems × List Token → Type 0
    MemsTaken ts y = (vs : WrittenMems) × AreMems defs vs × (plain_mems vs ≡ y.0) × (m : ℕ) × (ts ≡ spell_mems vs (mark m close_brace ∷ y.1))

    mems_by_take : (more : List Token → Read Mems) → ((ts : List Token) (y : Mems × List Token) → more ts ≡ Some y → MemsTaken ts y)
        → (ts : List Token) (e : Mem × List Token) (o : Option (List Token)) (y : Mems × List Token) → MemTaken ts e → eat close_brace e.1 ≡ o → s.mems_by defs most expr inner more e.0 e.1 o ≡ Some y → MemsTaken ts y
    mems_by_take more others ts e (Some after) y one at is =
        let f = eat_takes close_brace e.1 after at in
        let read : MemsTaken ts (t.more_mems e.0 t.no_mems, after) = (p.last_mem one.0, one.1, ap (λ v. t.more_mems v t.no_mems) one.2, f.0, one.3 ∙ ap (spell_mem one.0) f.2) in
        rw (← some_is is) read
    mems_by_take more others ts e None y one at is =
        let b = bind_some (more e.1) (λ ms. Some (t.more_mems e.0 ms.0, ms.1)) y is in
        let rest = others e.1 b.0 b.1 in
        let read : MemsTaken ts (t.more_mems e.0 b.0.0, b.0.1) =
        (p.more_mems one.0 rest.0, (one.1, rest.1), ap (λ v. t.more_mems v (plain_mems rest.0)) one.2 ∙ ap (t.more_mems e.0) rest.2, rest.3, one.3 ∙ ap (spell_mem one.0) rest.4) in
        rw (← some_is b.2) read

    mems_take : (j : ℕ) (ts : List Token) (y : Mems × List Token) → s.mems defs most expr inner j ts ≡ Some y → MemsTaken ts y
    unfolding s.mems
    mems_take zero ts y is = cc
    mems_take (suc j) ts y is =
        let b = bind_some (s.mem defs most expr inner ts) (λ e. s.mems_by defs most expr inner (s.mems defs most expr inner j) e.0 e.1 (eat close_brace e.1)) y is in
        mems_by_take (s.mems defs most expr inner j) (mems_take j) ts b.0 (eat close_brace b.0.1) y (mem_takes ts b.0 b.1) refl b.2

    body_takes : (kind : TagKind) (l : ℕ) (n : Option Name) (ts : List Token) (y : TagDef × List Token) → s.body_by defs most expr inner kind l n ts ≡ Some y → BodyTaken defs kind l n ts y
    body_takes Struct l n ts y is =
        let b = bind_some (s.mems defs most expr inner (length ts) ts) (λ ms. grown def_depth most (t.struct l n ms.0) ms.1) y is in
        let ms = mems_take (length ts) ts b.0 b.1 in
        let g = grown_takes def_depth most (t.struct l n b.0.0) b.0.1 y b.2 in
        let read : BodyTaken defs Struct l n ts (t.struct l n b.0.0, b.0.1) = (
          λ z m. p.struct l z m ms.0 ms.3,
          λ z m same. (
            ms.1,
            ap (λ v. t.struct l v (plain_mems ms.0)) same ∙ ap (t.struct l n) ms.2,
            ap (λ v. word l (tag_word Struct) ∷ spell_if spell_named z (mark m open_brace ∷ v)) ms.4,
          ),
        ) in
        rw (← g.0) read
    body_takes Union l n ts y is = cc
    body_takes Enum l n ts y is =
        let b = bind_some (separated (s.en defs most expr) (length ts) ts) (λ es. eat close_brace es.1 >>= λ after. grown def_depth most (t.enum l n es.0) after) y is in
        let es = separated_takes plain_en spell_en (s.en defs most expr) (IsEn defs) en_takes (length ts) ts b.0 b.1 in
        let c = bind_some (eat close_brace b.0.1) (λ after. grown def_depth most (t.enum l n b.0.0) after) y b.2 in
        let f = eat_takes close_brace b.0.1 c.0 c.1 in
        let g = grown_takes def_depth most (t.enum l n b.0.0) c.0 y c.2 in
        let read : BodyTaken defs Enum l n ts (t.enum l n b.0.0, c.0) = (
          λ z m. p.enum l z m es.0 f.0,
          λ z m same. (
            es.1,
            ap (λ v. t.enum l v (listed plain_en es.0)) same ∙ ap (t.enum l n) es.2,
            ap (λ v. word l (tag_word Enum) ∷ spell_if spell_named z (mark m open_brace ∷ v)) (es.3 ∙ ap (spell_separated spell_en es.0) f.2),
          ),
        ) in
        rw (← g.0) read

  pub file_words_take : (n : ℕ) (ts : List Token) (y : Found × List Token) → s.file_words defs most expr n ts ≡ Some y → WordsTaken defs ts y
  unfolding s.file_words
  file_words_take zero ts y is = words_take defs no_body (λ kind l n ts1 y1 is1. cc) (suc (length ts)) ts y is
  file_words_take (suc n) ts y is = words_take defs (s.body_by defs most expr (s.file_words defs most expr n)) (body_takes (s.file_words defs most expr n) (file_words_take n)) (suc (length ts)) ts y is
