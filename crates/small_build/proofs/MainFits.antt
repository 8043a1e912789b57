-- The main of a text of the small form is one that the code maker takes.
use Rattle.std.proofs.Common.{◌≡◌, ℕ, ◌+◌, ◌≤◌, List, [], ◌∷◌, ◌++◌, length, map, refl, sym, ap, ◌∙◌, arith, append-nil, subst}
use Rattle.std.specs.Prelude.{Option, Some, None, true, ◌&&◌, option_map}
use Rattle.std.specs.List.{list_all, flat_map}
use Rattle.c_lex.specs.Tokens.{Token}
use Rattle.c_grammar.specs.Words.{mark, open_brace, close_brace}
use Rattle.c_tree.specs.TreeDecl as d
use Rattle.c_tree.specs.TreeStmt as s
use Rattle.c_tree.specs.TreeUnit as tu
use Rattle.c_tree.specs.TStmt.{TStmts, locals}
use Rattle.c_tree.specs.TUnit.{Func}
use Rattle.c_tree.specs.Starts.{at, starts_stmts, starts_func}
use Rattle.c_tree.specs.Bodies.{autos_local, autos}
use Rattle.c_grammar.specs.WrittenDecl.{plain_local, WrittenPar, plain_par}
use Rattle.c_grammar.specs.WrittenDeclr.{plain_declr, spell_declr}
use Rattle.c_grammar.specs.WrittenSpecs.{Parts, no_parts, more_parts, plain_specs, spell_specs}
use Rattle.c_grammar.specs.WrittenStmt.{WrittenBlock, plain_block, plain_stmts, spell_stmts, spell_locals, spell_block, IsBlock}
use Rattle.c_grammar.specs.WrittenUnit as wu
use Rattle.c_grammar.specs.WrittenUnit.{WrittenExt, WrittenHead, plain_ext, plain_unit, spell_ext, spell_exts, spell_head, AreExts, IsExt, specs_or_none}
use Rattle.c_grammar.specs.Reads.{ReadsTokens}
use Rattle.gen_small.specs.Forms.{IsFormStmts, IsNumbered, stmts_weight}
use Rattle.c_decl.proofs.DeclrAgain.{declr_longer}
use Rattle.c_run.specs.Context.{linked}
use Rattle.c_run.specs.Lasting.{lastings_of}
use Rattle.c_run.specs.Mentions.{in_local, in_stmts}
use Rattle.gen_small.specs.Mains.{AllInt}
use Rattle.gen_small.specs.Whole.{IsFormMain, IsSmallProgram}
use Rattle.small_build.specs.SmallText.{IsSmallText, are_few}
use Rattle.small_form.specs.SmallForm.{small_main, main_in, body_in, main_with, is_body, is_main, is_line, is_plain, are_variables, names_in, stmts_in, stmts_starts, unit_size, program_of_main}
use Rattle.small_form.proofs.Shaped.{none_some, mapped, picked, all_settled, plain_decls, numbered_append}
use Rattle.small_build.proofs.Tokened.{both, few_on, stmts_fit}
use Rattle.small_build.proofs.UnitFits.{main_passes, locals_pass, names_count, unit_count}
use Rattle.small_build.proofs.FewTokens.{falls_short}

-- a unit has at most as many names and starts as tokens
pub reads_short : (ts : List Token) (u : tu.Unit) → ReadsTokens ts u → unit_size u ≤ length ts
reads_short ts u r =
    let count = unit_count r.written in
    let size : unit_size u ≡ unit_size (plain_unit r.written) = ap unit_size (sym r.plain_is) in
    omega (arith, count, size, ap length r.tokens)

-- ---- the main of a unit

-- what was written of it
pub record IsWritten (f : Func) (b : WrittenBlock) (stmts : TStmts) : Type 0 where
  pub block : IsBlock [] b
  pub body : is_body (plain_block b) ≡ true
  pub typed : stmts_in (names_in (map plain_local b.decls)) 1 (plain_stmts b.stmts) ≡ Some stmts
  pub whole : main_with (plain_block b) stmts ≡ f

-- Its block's tokens have no more than 62 `(` open, and are no more than those of the unit.
pub record HasWritten (f : Func) (ts : List Token) : Type 0 where
  pub block : WrittenBlock
  pub stmts : TStmts
  pub written : IsWritten f block stmts
  pub few : are_few 0 (spell_block block []) ≡ true
  pub short : length (spell_block block []) ≤ length ts

main_of : (l : ℕ) (x : Option d.FileSpecs) (h : d.Declr) (ps : List d.ParDecl) (b : s.Block) (f : Func) → main_in (tu.func l x h ps b) ≡ Some f
    → (x ≡ None) × (ps ≡ []) × (is_main h ≡ true) × (body_in b ≡ Some f)
main_of l None h [] b f e = let p = picked (is_main h) (body_in b) f e in (refl, refl, p.0, p.1)
main_of l None h (p ∷ ps) b f e = absurd (none_some f e)
main_of l (Some x) h ps b f e = absurd (none_some f e)

no_specs : (ps : Parts) → specs_or_none ps ≡ None → ps ≡ no_parts
no_specs no_parts e = refl
no_specs (more_parts p ps) e = absurd (let h : Some (plain_specs (more_parts p ps)) ≡ None = e in cc)

no_params : (ps : List WrittenPar) → map plain_par ps ≡ [] → ps ≡ []
no_params [] e = refl
no_params (p ∷ ps) e = absurd (let h : plain_par p ∷ map plain_par ps ≡ [] = e in cc)

body_written : (b : WrittenBlock) (f : Func) → IsBlock [] b → body_in (plain_block b) ≡ Some f → (stmts : TStmts) × IsWritten f b stmts
body_written b f ok e =
    let p = picked (is_body (plain_block b)) (option_map (main_with (plain_block b)) (stmts_in (names_in (map plain_local b.decls)) 1 (plain_stmts b.stmts))) f e in
    let m = mapped (main_with (plain_block b)) (stmts_in (names_in (map plain_local b.decls)) 1 (plain_stmts b.stmts)) f p.1 in
    (m.0, record { block = ok; body = p.0; typed = m.1; whole = m.2 })

head_written : (f : Func) (h : WrittenHead) (b : WrittenBlock) → IsExt [] (wu.func h b) → main_in (plain_ext (wu.func h b)) ≡ Some f → are_few 0 (spell_ext (wu.func h b) []) ≡ true
    → HasWritten f (spell_ext (wu.func h b) [])
head_written f h b ok e few =
    let p = main_of (wu.head_line h.parts h.declr) (specs_or_none h.parts) (plain_declr h.declr) (map plain_par h.params) (plain_block b) f e in
    let w = body_written b f ok.1 p.3 in
    let tokens : spell_ext (wu.func h b) [] ≡ spell_declr h.declr (spell_block b []) =
    ap (λ x. spell_specs x (spell_declr h.declr (wu.spell_pars h.params (spell_block b [])))) (no_specs h.parts p.0) ∙ ap (λ x. spell_declr h.declr (wu.spell_pars x (spell_block b []))) (no_params h.params p.1) in
    record {
      block = b;
      stmts = w.0;
      written = w.1;
      few = main_passes h.declr p.2 0 (spell_block b []) (rw tokens at few);
      short = omega (arith, declr_longer h.declr (spell_block b []), ap length tokens);
    }

exts_written : (f : Func) (es : List WrittenExt) → AreExts [] es → small_main (plain_unit es) ≡ Some f → are_few 0 (spell_exts es []) ≡ true → HasWritten f (spell_exts es [])
exts_written f [] ok e few = absurd (none_some f e)
exts_written f (wu.func h b ∷ []) ok e few = head_written f h b ok.0 e few
exts_written f (wu.typedef ps ds l ∷ []) ok e few = absurd (none_some f e)
exts_written f (wu.tag_only g l ∷ []) ok e few = absurd (none_some f e)
exts_written f (wu.object ps is l ∷ []) ok e few = absurd (none_some f e)
exts_written f (x ∷ y ∷ es) ok e few = absurd (none_some f e)

has_written : (ts : List Token) (u : tu.Unit) (f : Func) → ReadsTokens ts u → small_main u ≡ Some f → are_few 0 ts ≡ true → HasWritten f ts
has_written ts u f r e few = rw (r.tokens) (exts_written f r.written r.levelled (ap small_main r.plain_is ∙ e) (rw (r.tokens) at few))

-- ---- what the code maker asks of it

-- a main that the code maker takes, with no more weight than the text has bytes, whose program has no object of static life
pub record IsTaken (f : Func) (bytes : ℕ) : Type 0 where
  pub form : IsFormMain f
  pub light : stmts_weight f.stmts ≤ bytes
  pub program : IsSmallProgram (linked (program_of_main f)) 0 (record { unit = 0; func = f })

written_taken : (b : WrittenBlock) (stmts : TStmts) (bytes : ℕ) → IsWritten (main_with (plain_block b) stmts) b stmts → are_few 0 (spell_block b []) ≡ true → length (spell_block b []) ≤ bytes → bytes ≤ 131000
    → IsTaken (main_with (plain_block b) stmts) bytes
written_taken b stmts bytes w few short limit =
    let f = main_with (plain_block b) stmts in
    let names = names_in (map plain_local b.decls) in
    let after = mark b.close_line close_brace ∷ [] in
    let c1 = both (is_line b.line && is_line b.close_line && list_all is_plain (map plain_local b.decls)) (are_variables names) w.body in
    let c2 = both (is_line b.line && is_line b.close_line) (list_all is_plain (map plain_local b.decls)) c1.0 in
    let inside = few_on 0 0 (mark b.line open_brace) (spell_locals b.decls (spell_stmts b.stmts after)) refl few in
    let fit = stmts_fit [] names 1 b.stmts stmts w.block.1 w.typed in
    let form = fit.form after (locals_pass b.decls c2.1 0 (spell_stmts b.stmts after) inside.1) in
    let size = fit.size after in
    let count = names_count b.decls (spell_stmts b.stmts after) in
    let settled = all_settled names 1 (plain_stmts b.stmts) stmts w.typed in
    let plain = plain_decls 0 (map plain_local b.decls) in
    let autos_are : autos f ≡ flat_map autos_local (locals f.locals) = ap (λ l. flat_map autos_local (locals f.locals) ++ l) settled.no_autos ∙ append-nil (flat_map autos_local (locals f.locals)) in
    let autos_count : length (autos f) ≡ length names = ap length autos_are ∙ plain.count in
    let starts_are : starts_func f ≡ at 0 b.line ∷ (starts_stmts stmts ++ at (1 + stmts_starts (plain_stmts b.stmts)) b.close_line ∷ []) =
    ap (λ l. at 0 b.line ∷ (l ++ (starts_stmts stmts ++ at (1 + stmts_starts (plain_stmts b.stmts)) b.close_line ∷ []))) plain.no_starts in
    let close : 1 + stmts_starts (plain_stmts b.stmts) ≡ 1 + length (starts_stmts stmts) = ap (λ n. 1 + n) (sym settled.count) in
    let numbered : IsNumbered 0 (starts_func f) = subst (IsNumbered 0) (sym starts_are) (refl, numbered_append 1 (starts_stmts stmts) (at (1 + stmts_starts (plain_stmts b.stmts)) b.close_line ∷ []) settled.numbered (close, tt)) in
    let silent : (flat_map in_local (locals f.locals) ++ in_stmts stmts) ++ [] ≡ [] = ap (λ l. (l ++ in_stmts stmts) ++ []) plain.silent ∙ ap (λ l. l ++ []) settled.silent in
    let form_main : IsFormMain f = record {
      params_none = refl;
      result_is = refl;
      ints = subst AllInt (sym autos_are) plain.ints;
      plain = plain.plain;
      few = omega (arith, autos_count, count, short);
      small = subst (λ n. IsFormStmts n stmts) (sym autos_count) form.0;
      short = omega (arith, size, count, short);
      numbered = numbered;
    } in
    record {
      form = form_main;
      light = omega (arith, size, count, short);
      program = record { body_is = refl; named = refl; no_statics = ap (λ ms. lastings_of (record { unit = 0; texts = []; mentions = ms } ∷ [])) silent; main = form_main };
    }

taken_of : (f : Func) (bytes : ℕ) (ts : List Token) → HasWritten f ts → length ts ≤ bytes → bytes ≤ 131000 → IsTaken f bytes
taken_of f bytes ts h short limit =
    let below = h.short in
    rw (← h.written.whole) (written_taken h.block h.stmts bytes (record { block = h.written.block; body = h.written.body; typed = h.written.typed; whole = refl }) h.few (omega arith) limit)

-- the main of a text of the small form is taken
pub main_taken : (text : List ℕ) (f : Func) → IsSmallText text f → IsTaken f (length text)
main_taken text f s =
    taken_of f (length text) s.tokens (has_written s.tokens s.small.unit f s.small.reads s.small.main_is s.small.few) (falls_short text s.tokens s.falls) s.short
