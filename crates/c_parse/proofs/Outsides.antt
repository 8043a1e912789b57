-- What stands outside of blocks at a place is read there.
use Rattle.std.proofs.Common.{◌≡◌, ℕ, ◌≤◌, List, drop, Option, Some, None, Result, Ok, Err, IfOk, true, refl, arith, ap, sym, subst, ◌∙◌}
use Rattle.c_type.specs.Names.{Name}
use Rattle.c_lex.specs.Tokens.{Token}
use Rattle.c_grammar.specs.Words.{open_brace}
use Rattle.c_tree.specs.TreeUnit.{Ext, FuncHead, ext_depth, head_depth}
use Rattle.c_tree.specs.TreeOf.{ext_of}
use Rattle.c_tree.specs.declared.unit.Ext.{Ext as RustExt}
use Rattle.c_grammar.specs.Reads.{most, IsDeclarationAt, IsHeadAt, begins_block}
use Rattle.c_lex.specs.Shown.{tokens_of}
use Rattle.c_expr.specs.Front.{eat}
use Rattle.c_expr.specs.declared.error.ParseErr.{ParseErr}
use Rattle.c_expr.specs.declared.error.ParseErr.TheVariants.{TooDeep, NotC, Memory}
use Rattle.c_expr.specs.Answer.{OnNotC, IsNotTooDeep}
use Rattle.c_expr.proofs.Taken.{eat_takes}
use Rattle.c_decl.specs.declared.FuncHead.{FuncHead as RustHead}
use Rattle.c_decl.specs.declared.Head.{Head}
use Rattle.c_decl.specs.declared.Head.TheVariants.{Whole, Func}
use Rattle.c_decl.specs.declared.reader.Reader.{Reader}
use Rattle.c_decl.specs.Answers.{Gives, found, names, rest}
use Rattle.c_decl.specs.FoundAt.{IsFoundAt, names_behind}
use Rattle.c_decl.specs.HeadOf.{head_of, outside_of}
use Rattle.c_decl.specs.Expression.{expression}
use Rattle.c_decl.specs.ReadDecl as d
use Rattle.c_decl.proofs.Joined.{whole_read, head_read}
use Rattle.c_decl.proofs.Expressions.{expr_takes}
use Rattle.c_decl.proofs.OutsideTakes.{OutsideTaken, outside_takes}
use Rattle.c_parse.specs.ReadUnit as q
use Rattle.c_parse.specs.Units as u
use Rattle.c_parse.proofs.Behind.{declaration_behind, head_behind, place}

whole_given : (defs : List Name) (at : ℕ) (ts : List Token) (x : Ext) (k : ℕ) → IsDeclarationAt defs ts at x k → u.outside defs (drop at ts) ≡ Some (d.whole x, drop k ts)
whole_given defs at ts x k is =
    ap (u.outside defs) is.tokens ∙ whole_read defs is.written (drop k ts) is.levelled is.no_function (subst (λ y. ext_depth y ≤ most) (sym is.plain_is) is.low) ∙ ap (λ y. Some (d.whole y, drop k ts)) is.plain_is

head_given : (defs : List Name) (at : ℕ) (ts : List Token) (x : FuncHead) (k : ℕ) → IsHeadAt defs ts at x k → u.outside defs (drop at ts) ≡ Some (d.head x, drop k ts)
head_given defs at ts x k is =
    ap (u.outside defs) is.tokens ∙ head_read defs is.written (drop k ts) is.levelled (subst (λ y. head_depth y ≤ most) (sym is.plain_is) is.low) is.block ∙ ap (λ y. Some (d.head y, drop k ts)) is.plain_is

given : (defs : List Name) (at : ℕ) (ts : List Token) (x : Head) (k : ℕ) → IsFoundAt defs ts at x k → u.outside defs (drop at ts) ≡ Some (outside_of x, drop k ts)
given defs at ts (Whole e) k is = whole_given defs at ts (ext_of e) k is
given defs at ts (Func h) k is = head_given defs at ts (head_of h) k is

begins : (ts after : List Token) → eat open_brace ts ≡ Some after → begins_block ts ≡ true
begins ts after is = let f = eat_takes open_brace ts after is in ap begins_block (f.2)

stands : (defs : List Name) (at : ℕ) (ts : List Token) (x : d.Outside) (after : List Token) → OutsideTaken defs most (drop at ts) x after → ((y : Ext) (k : ℕ) → IsDeclarationAt defs ts at y k → ⊥) → ((y : FuncHead) (k : ℕ) → IsHeadAt defs ts at y k → ⊥) → ⊥
stands defs at ts (d.whole e) after t no_whole no_head =
    let p = place at ts after (rw t.tokens (declaration_behind t.written after t.declaration)) in
    no_whole e p.0 (record { written = t.written; levelled = t.levelled; no_function = t.declaration; plain_is = t.plain_is; tokens = rw p.2 (t.tokens); low = t.low; within = p.1 })
stands defs at ts (d.head h) after t no_whole no_head =
    let p = place at ts after (rw t.tokens (head_behind t.written after)) in
    no_head h p.0 (record { written = t.written; levelled = t.levelled; plain_is = t.plain_is; tokens = rw p.2 (t.tokens); block = rw p.2 (begins after t.rest t.block); low = t.low; within = p.1 })

missing : (defs : List Name) (at : ℕ) (ts : List Token) (o : Option (d.Outside × List Token)) → u.outside defs (drop at ts) ≡ o
    → ((y : Ext) (k : ℕ) → IsDeclarationAt defs ts at y k → ⊥) → ((y : FuncHead) (k : ℕ) → IsHeadAt defs ts at y k → ⊥) → o ≡ None
missing defs at ts None is no_whole no_head = refl
missing defs at ts (Some x) is no_whole no_head =
    absurd (stands defs at ts x.0 x.1 (outside_takes defs most (omega arith) (expression defs) (expr_takes defs) (drop at ts) x is) no_whole no_head)

-- What the parser of declarations answers at a place outside of blocks is what is read there.
pub outside_answers : (defs : List Name) (at : ℕ) (ts : List Token) (x : Result (Head × ℕ) ParseErr) → IfOk x (λ y. IsFoundAt defs ts at y.0 y.1) → OnNotC x ((y : Ext) (k : ℕ) → IsDeclarationAt defs ts at y k → ⊥)
    → OnNotC x ((y : FuncHead) (k : ℕ) → IsHeadAt defs ts at y k → ⊥) → IsNotTooDeep x → Gives (λ y. (outside_of y.0, drop y.1 ts)) x (u.outside defs (drop at ts))
outside_answers defs at ts (Ok y) is no_whole no_head shallow = given defs at ts y.0 y.1 is
outside_answers defs at ts (Err (TooDeep line)) is no_whole no_head shallow = absurd shallow
outside_answers defs at ts (Err (NotC line)) is no_whole no_head shallow = missing defs at ts (u.outside defs (drop at ts)) refl no_whole no_head
outside_answers defs at ts (Err Memory) is no_whole no_head shallow = tt

-- A function is read behind its head.
pub function_answers : (r : Reader) (defs : List Name) (at behind : ℕ) (x : Head) (h : RustHead) (y : Result (RustExt × ℕ) ParseErr) → names r ≡ names_behind defs x → x ≡ Func h
    → u.outside defs (drop at (tokens_of r.tokens.now)) ≡ Some (outside_of x, drop behind (tokens_of r.tokens.now)) → Gives (found ext_of r) y (u.function r (head_of h) (rest r behind))
    → Gives (λ z. (ext_of z.0, drop z.1 (tokens_of r.tokens.now))) y (u.ext defs (drop at (tokens_of r.tokens.now)))
unfolding rest
function_answers r defs at behind x h y same is read gives =
    let ts = tokens_of r.tokens.now in
    let word : u.ext defs (drop at ts) ≡ q.ext_by most expression defs (d.head (head_of h)) (drop behind ts) = rw (read, is) refl in
    subst (Gives (λ z. (ext_of z.0, drop z.1 ts)) y) (ap (λ ns. q.ext_by most expression ns (d.head (head_of h)) (drop behind ts)) (same ∙ ap (names_behind defs) is) ∙ sym word) gives
