-- What is read at a place stands there, and where nothing is read nothing stands.
use Rattle.std.proofs.Common.{◌≡◌, ◌≤◌, ℕ, List, length, drop, Some, None, Result, Ok, Err, IfOk, refl, ap, subst, arith, sym, ◌∙◌, true}
use Rattle.c_type.specs.Names.{Name}
use Rattle.c_lex.specs.Tokens.{Token}
use Rattle.c_grammar.specs.Words.{open_brace}
use Rattle.c_tree.specs.TreeDecl.{LocalDecl, local_depth}
use Rattle.c_tree.specs.TreeUnit.{Ext, FuncHead, ext_depth, head_depth}
use Rattle.c_tree.specs.TreeOf.{ext_of, local_of}
use Rattle.c_tree.specs.declared.decl.LocalDecl.{LocalDecl as RustLocal}
use Rattle.c_grammar.specs.Reads.{most, begins_block, IsLocalAt, IsDeclarationAt, IsHeadAt}
use Rattle.c_expr.specs.Front.{eat}
use Rattle.c_expr.specs.Answer.{OnNotC, IsNotTooDeep}
use Rattle.c_expr.specs.declared.error.ParseErr.{ParseErr}
use Rattle.c_expr.specs.declared.error.ParseErr.TheVariants.{TooDeep, NotC, Memory}
use Rattle.c_expr.proofs.Taken.{eat_takes}
use Rattle.c_grammar.specs.WrittenDecl.{plain_local}
use Rattle.c_grammar.specs.WrittenUnit.{plain_ext, plain_head}
use Rattle.c_decl.specs.declared.Head.{Head}
use Rattle.c_decl.specs.declared.Head.TheVariants.{Whole, Func}
use Rattle.c_decl.specs.Answers.{Gives}
use Rattle.c_decl.specs.Expression.{expression}
use Rattle.c_decl.specs.FoundAt.{IsFoundAt}
use Rattle.c_decl.specs.HeadOf.{head_of, outside_of}
use Rattle.c_decl.specs.ReadDecl as e
use Rattle.c_decl.proofs.Expressions.{expr_takes}
use Rattle.c_decl.proofs.Joined.{whole_read, head_read, local_read}
use Rattle.c_decl.proofs.DeclTakes.{local_takes}
use Rattle.c_decl.proofs.OutsideTakes.{outside_takes}

begins : (ts after : List Token) → eat open_brace ts ≡ Some after → begins_block ts ≡ true
begins ts after at = let f = eat_takes open_brace ts after at in rw (f.2) refl

module _ (defs : List Name) (at : ℕ) (ts : List Token) where
  outside_found : (x : Head) (k : ℕ) → k ≤ length ts → e.outside defs most (expression defs) (drop at ts) ≡ Some (outside_of x, drop k ts) → IsFoundAt defs ts at x k
  outside_found (Whole y) k within is =
      let t = outside_takes defs most (omega arith) (expression defs) (expr_takes defs) (drop at ts) (e.whole (ext_of y), drop k ts) is in
      record { written = t.written; levelled = t.levelled; no_function = t.declaration; plain_is = t.plain_is; tokens = t.tokens; low = t.low; within = within }
  outside_found (Func h) k within is =
      let t = outside_takes defs most (omega arith) (expression defs) (expr_takes defs) (drop at ts) (e.head (head_of h), drop k ts) is in
      record { written = t.written; levelled = t.levelled; plain_is = t.plain_is; tokens = t.tokens; block = begins (drop k ts) t.rest t.block; low = t.low; within = within }

  no_declaration : e.outside defs most (expression defs) (drop at ts) ≡ None → (y : Ext) (k : ℕ) → IsDeclarationAt defs ts at y k → ⊥
  no_declaration none y k d =
      let low : ext_depth (plain_ext d.written) ≤ most = subst (λ z. ext_depth z ≤ most) (sym d.plain_is) d.low in
      let read = ap (e.outside defs most (expression defs)) d.tokens ∙ whole_read defs d.written (drop k ts) d.levelled d.no_function low in
      cc

  no_head : e.outside defs most (expression defs) (drop at ts) ≡ None → (h : FuncHead) (k : ℕ) → IsHeadAt defs ts at h k → ⊥
  no_head none h k d =
      let low : head_depth (plain_head d.written) ≤ most = subst (λ z. head_depth z ≤ most) (sym d.plain_is) d.low in
      let read = ap (e.outside defs most (expression defs)) d.tokens ∙ head_read defs d.written (drop k ts) d.levelled low d.block in
      cc

  local_found : (x : LocalDecl) (k : ℕ) → k ≤ length ts → e.local defs most (expression defs) (drop at ts) ≡ Some (x, drop k ts) → IsLocalAt defs ts at x k
  local_found x k within is =
      let t = local_takes defs most (omega arith) (expression defs) (expr_takes defs) (drop at ts) (x, drop k ts) is in
      record { written = t.written; levelled = t.levelled; plain_is = t.plain_is; tokens = t.tokens; low = t.low; within = within }

  no_local : e.local defs most (expression defs) (drop at ts) ≡ None → (x : LocalDecl) (k : ℕ) → IsLocalAt defs ts at x k → ⊥
  no_local none x k d =
      let low : local_depth (plain_local d.written) ≤ most = subst (λ z. local_depth z ≤ most) (sym d.plain_is) d.low in
      let read = ap (e.local defs most (expression defs)) d.tokens ∙ local_read defs d.written (drop k ts) d.levelled low in
      cc

-- What an answer says of the place.
pub record SaysOutside (defs : List Name) (ts : List Token) (at : ℕ) (o : Result (Head × ℕ) ParseErr) : Type 0 where
  pub spelled : IfOk o (λ x. IsFoundAt defs ts at x.0 x.1)
  pub no_declaration : OnNotC o ((y : Ext) (k : ℕ) → IsDeclarationAt defs ts at y k → ⊥)
  pub no_head : OnNotC o ((h : FuncHead) (k : ℕ) → IsHeadAt defs ts at h k → ⊥)
  pub shallow : IsNotTooDeep o

pub says_outside : (defs : List Name) (ts : List Token) (at : ℕ) (o : Result (Head × ℕ) ParseErr) → Gives (λ x. (outside_of x.0, drop x.1 ts)) o (e.outside defs most (expression defs) (drop at ts)) → IfOk o (λ x. x.1 ≤ length ts)
    → SaysOutside defs ts at o
says_outside defs ts at (Ok x) given within = record { spelled = outside_found defs at ts x.0 x.1 within given; no_declaration = tt; no_head = tt; shallow = tt }
says_outside defs ts at (Err (TooDeep line)) given within = absurd given
says_outside defs ts at (Err (NotC line)) given within = record { spelled = tt; no_declaration = no_declaration defs at ts given; no_head = no_head defs at ts given; shallow = tt }
says_outside defs ts at (Err Memory) given within = record { spelled = tt; no_declaration = tt; no_head = tt; shallow = tt }

pub record SaysLocal (defs : List Name) (ts : List Token) (at : ℕ) (o : Result (RustLocal × ℕ) ParseErr) : Type 0 where
  pub spelled : IfOk o (λ x. IsLocalAt defs ts at (local_of x.0) x.1)
  pub none : OnNotC o ((x : LocalDecl) (k : ℕ) → IsLocalAt defs ts at x k → ⊥)
  pub shallow : IsNotTooDeep o

pub says_local : (defs : List Name) (ts : List Token) (at : ℕ) (o : Result (RustLocal × ℕ) ParseErr) → Gives (λ x. (local_of x.0, drop x.1 ts)) o (e.local defs most (expression defs) (drop at ts)) → IfOk o (λ x. x.1 ≤ length ts)
    → SaysLocal defs ts at o
says_local defs ts at (Ok x) given within = record { spelled = local_found defs at ts (local_of x.0) x.1 within given; none = tt; shallow = tt }
says_local defs ts at (Err (TooDeep line)) given within = absurd given
says_local defs ts at (Err (NotC line)) given within = record { spelled = tt; none = no_local defs at ts given; shallow = tt }
says_local defs ts at (Err Memory) given within = record { spelled = tt; none = tt; shallow = tt }
