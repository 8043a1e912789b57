-- What is read of an expression is spelled so.
use Rattle.std.proofs.Common.{◌≡◌, ℕ, ◌≤◌, max, zero, suc, List, [], ◌∷◌, length, Option, Some, None, false, nat_lt, nat_eq, refl, arith, ap, sym, ◌∙◌, inl, inr}
use Rattle.std.proofs.lemmas.Bool.{ltb-false}
use Rattle.c_type.specs.Names.{Name, pick}
use Rattle.c_lex.specs.Tokens.{Tok, Token}
use Rattle.c_lex.specs.Tokens as k
use Rattle.c_tree.specs.declared.expr.BinaryOp.{BinaryOp}
use Rattle.c_tree.specs.declared.expr.AssignOp.{AssignOp}
use Rattle.c_tree.specs.declared.expr.UnaryOp.{UnaryOp}
use Rattle.c_tree.specs.declared.expr.StepOp.{StepOp}
use Rattle.c_grammar.specs.Words.{tok, mark, word, binary_level, binary_mark, assign_mark, unary_mark}
use Rattle.c_tree.specs.TreeExpr.{TypeName, Expr, Exprs, expr_depth}
use Rattle.c_tree.specs.TreeExpr as t
use Rattle.c_grammar.specs.WrittenType.{is_typedef, plain_name, spell_name}
use Rattle.c_grammar.specs.WrittenExpr.{Written, Args, Others, first, plain, plains, level, is_cast, IsLevelled, AreLevelled, spell, spell_args, spell_others}
use Rattle.c_grammar.specs.WrittenExpr as w
use Rattle.c_grammar.specs.Reads.{Spells}
use Rattle.c_expr.specs.Front.{Read, ◌>>=◌, eat, eat_word, line_at, name_at, grown, front_mark}
use Rattle.c_expr.specs.Typename.{typed, type_bracket, begins_type}
use Rattle.c_expr.specs.Reading.{operator_at, assigned_at, choice_at, comma_at}
use Rattle.c_expr.specs.Reading as r
use Rattle.c_grammar.specs.Words.{unary_of, step_of}
use Rattle.c_expr.proofs.Taken.{some_is, bind_some, chosen, Front, eat_takes, word_takes, name_takes, unary_takes, step_takes, assigned_takes, operator_takes, choice_takes, comma_takes}
use Rattle.c_expr.proofs.Fronts.{line_first}
use Rattle.c_expr.proofs.Takes.{typed_takes}
use Rattle.c_expr.proofs.Levels.{binary_range, level_range, Stops, stops_low, Binds, binds_after, operator_some, bracket_again}

type_takes : (defs : List Name) (ts after : List Token) → type_bracket defs ts ≡ Some after → Front ts (k.mark 21) after
type_takes defs ts after is =
    let b = bind_some (eat 21 ts) (λ y. pick (begins_type defs y) (Some y) None) after is in
    elim (chosen (begins_type defs b.0) (Some b.0) None (Some after) b.2) [
      | inl h ↦ let same : b.0 ≡ after = some_is h.1 in eat_takes 21 ts after (b.1 ∙ ap Some same)
      | inr h ↦ cc (h.1)
    ]

-- where no type follows the bracket, no cast is read
no_cast_read : (defs : List Name) (v : Written) (ts after : List Token) → IsLevelled defs v → ts ≡ spell v after → type_bracket defs ts ≡ None → is_cast v ≡ false
no_cast_read defs (w.cast l y m e) ts after ok is none =
    let some : type_bracket defs (mark l 21 ∷ spell_name y (mark m 22 ∷ spell e after)) ≡ Some (spell_name y (mark m 22 ∷ spell e after)) = bracket_again defs y l (mark m 22 ∷ spell e after) ok.1 in
    let same : type_bracket defs ts ≡ type_bracket defs (mark l 21 ∷ spell_name y (mark m 22 ∷ spell e after)) = ap (type_bracket defs) is in
    cc
no_cast_read defs (w.comma x l y) ts after ok is none = refl
no_cast_read defs (w.assign x l op y) ts after ok is none = refl
no_cast_read defs (w.choice x l y m z) ts after ok is none = refl
no_cast_read defs (w.binary x l op y) ts after ok is none = refl
no_cast_read defs (w.unary l op e) ts after ok is none = refl
no_cast_read defs (w.size_of l e) ts after ok is none = refl
no_cast_read defs (w.size_of_type l m y n) ts after ok is none = refl
no_cast_read defs (w.index x l i m) ts after ok is none = refl
no_cast_read defs (w.call f l es m) ts after ok is none = refl
no_cast_read defs (w.member e l m x) ts after ok is none = refl
no_cast_read defs (w.arrow e l m x) ts after ok is none = refl
no_cast_read defs (w.post e l op) ts after ok is none = refl
no_cast_read defs (w.name l x) ts after ok is none = refl
no_cast_read defs (w.int l n long) ts after ok is none = refl
no_cast_read defs (w.chr l n) ts after ok is none = refl
no_cast_read defs (w.text l bytes) ts after ok is none = refl
no_cast_read defs (w.bracket l e m) ts after ok is none = refl

module _ (defs : List Name) (most : ℕ) (positive : 1 ≤ most) (inner : ℕ → List Token → Read Expr)
    (inner_takes : (l : ℕ) (ts : List Token) (x : Expr × List Token) → l ≤ 14 → inner l ts ≡ Some x → Spells defs l x.0 ts x.1 × (expr_depth x.0 ≤ most) × Stops l x.1) where
  abbrev Takes : ℕ → List Token → Expr × List Token → Type 0
  Takes l ts x = Spells defs l x.0 ts x.1 × (expr_depth x.0 ≤ most)

  grown_takes : (e : Expr) (ts : List Token) (x : Expr × List Token) → grown expr_depth most e ts ≡ Some x → ((e, ts) ≡ x) × (expr_depth e ≤ most)
  grown_takes e ts x is = elim (chosen (nat_lt most (expr_depth e)) None (Some (e, ts)) (Some x) is) [
    | inl h ↦ cc (h.1)
    | inr h ↦ (some_is h.1, ltb-false most (expr_depth e) h.0)
  ]

  -- what is grown is no deeper
  grow_takes : (l : ℕ) (ts : List Token) (x y : Expr × List Token) → Spells defs l y.0 ts y.1 → grown expr_depth most y.0 y.1 ≡ Some x → Takes l ts x
  grow_takes l ts x y s is = let g = grown_takes y.0 y.1 x is in rw (← g.0) (s, g.1)

  -- a part, and a closing mark
  abbrev Encloses : ℕ → Expr → List Token → List Token → Type 0
  Encloses m e ts after = (mid : List Token) × Spells defs 1 e ts mid × Front mid (k.mark m) after × (expr_depth e ≤ most)

  enclosed_takes : (m : ℕ) (ts : List Token) (x : Expr × List Token) → r.enclosed defs most inner m ts ≡ Some x → Encloses m x.0 ts x.1
  unfolding r.enclosed
  enclosed_takes m ts x is =
      let b = bind_some (inner 1 ts) (λ y. eat m y.1 >>= λ after. Some (y.0, after)) x is in
      let s = inner_takes 1 ts b.0 (omega arith) b.1 in
      let c = bind_some (eat m b.0.1) (λ after. Some (b.0.0, after)) x b.2 in
      let same : (b.0.0, c.0) ≡ x = some_is c.2 in
      rw (← same) (b.0.1, s.0, eat_takes m b.0.1 c.0 c.1, s.1)

  bracketed_takes : (ts : List Token) (o : Option (List Token)) (x : Expr × List Token) → eat 21 ts ≡ o → r.bracketed defs most inner o ≡ Some x → Takes 16 ts x
  bracketed_takes ts None x at is = cc
  bracketed_takes ts (Some after) x at is =
      let e = enclosed_takes 22 after x is in
      let f = eat_takes 21 ts after at in (
        record {
          written = w.bracket f.0 e.1.written e.2.0;
          levelled = (omega arith, e.1.levelled.1);
          plain_is = e.1.plain_is;
          tokens = f.2 ∙ ap (λ y. mark f.0 21 ∷ y) (e.1.tokens ∙ ap (spell e.1.written) e.2.2);
        },
        e.3,
      )

  abbrev eat_by : ℕ → List Token → Tok → Option (List Token)
  eat_by m ts (k.mark n) = pick (nat_eq n m) (Some ts) None
  eat_by m ts _ = None

  primary_by_takes : (y : Token) (ts : List Token) (c : Tok) (x : Expr × List Token) → y.kind ≡ c → r.primary_by defs most inner y.line ts c ≡ Some x → Takes 16 (y ∷ ts) x
  primary_by_takes y ts (k.name n) x kind is = elim (chosen (is_typedef defs n) None (Some (t.name y.line n, ts)) (Some x) is) [
    | inl h ↦ cc (h.1)
    | inr h ↦ rw (← some_is h.1) (record { written = w.name y.line n; levelled = (omega arith, h.0); plain_is = refl; tokens = ap (λ c. tok y.line c ∷ ts) kind }, positive)
  ]
  primary_by_takes y ts (k.int n long) x kind is =
      rw (← some_is is) (record { written = w.int y.line n long; levelled = (omega arith, tt); plain_is = refl; tokens = ap (λ c. tok y.line c ∷ ts) kind }, positive)
  primary_by_takes y ts (k.chr n) x kind is =
      rw (← some_is is) (record { written = w.chr y.line n; levelled = (omega arith, tt); plain_is = refl; tokens = ap (λ c. tok y.line c ∷ ts) kind }, positive)
  primary_by_takes y ts (k.text n) x kind is =
      rw (← some_is is) (record { written = w.text y.line n; levelled = (omega arith, tt); plain_is = refl; tokens = ap (λ c. tok y.line c ∷ ts) kind }, positive)
  primary_by_takes y ts (k.word n) x kind is = cc
  primary_by_takes y ts (k.mark m) x kind is =
      let at : eat 21 (y ∷ ts) ≡ pick (nat_eq m 21) (Some ts) None = ap (λ c. eat 21 (tok y.line c ∷ ts)) kind in
      bracketed_takes (y ∷ ts) (pick (nat_eq m 21) (Some ts) None) x at is

  primary_takes : (ts : List Token) (x : Expr × List Token) → r.primary defs most inner ts ≡ Some x → Takes 16 ts x
  unfolding r.primary
  primary_takes [] x is = cc
  primary_takes (y ∷ ts) x is = primary_by_takes y ts y.kind x refl is

  -- arguments, one at least, and the closing bracket
  abbrev SomeArgs : List Token → Exprs × List Token → Type 0
  SomeArgs ts x = (e : Written) × (es : Others) × AreLevelled defs (w.more_args e es) × (plains (w.more_args e es) ≡ x.0) × (m : ℕ) × (ts ≡ spell e (spell_others es (mark m 22 ∷ x.1)))

  abbrev TakesArgs : List Token → Exprs × List Token → Type 0
  TakesArgs ts x = (es : Args) × AreLevelled defs es × (plains es ≡ x.0) × (m : ℕ) × (ts ≡ spell_args es (mark m 22 ∷ x.1))

  args_next_takes : (more : List Token → Read Exprs) (e : Expr) (start ts : List Token) (o : Option (List Token)) (x : Exprs × List Token)
      → ((us : List Token) (y : Exprs × List Token) → more us ≡ Some y → SomeArgs us y)
      → Spells defs 2 e start ts → eat 28 ts ≡ o → r.args_next defs most inner more e ts o ≡ Some x → SomeArgs start x
  args_next_takes more e start ts None x rest s at is =
      let b = bind_some (eat 22 ts) (λ after. Some (t.more_exprs e t.no_exprs, after)) x is in
      let f = eat_takes 22 ts b.0 b.1 in
      let same : (t.more_exprs e t.no_exprs, b.0) ≡ x = some_is b.2 in (
        s.written,
        w.no_others,
        (s.levelled.0, s.levelled.1, tt),
        ap (λ y. t.more_exprs y t.no_exprs) s.plain_is ∙ ap (λ y. y.0) same,
        f.0,
        s.tokens ∙ ap (spell s.written) (f.2 ∙ ap (λ y. mark f.0 22 ∷ y.1) same),
      )
  args_next_takes more e start ts (Some after) x rest s at is =
      let b = bind_some (more after) (λ y. Some (t.more_exprs e y.0, y.1)) x is in
      let h = rest after b.0 b.1 in
      let f = eat_takes 28 ts after at in
      let same : (t.more_exprs e b.0.0, b.0.1) ≡ x = some_is b.2 in (
        s.written,
        w.more_others f.0 h.0 h.1,
        (s.levelled.0, s.levelled.1, h.2),
        (ap (λ y. t.more_exprs y (plains (w.more_args h.0 h.1))) s.plain_is ∙ ap (t.more_exprs e) h.3) ∙ ap (λ y. y.0) same,
        h.4,
        s.tokens ∙ ap (spell s.written) (f.2 ∙ ap (λ y. mark f.0 28 ∷ y) (h.5 ∙ ap (λ y. spell h.0 (spell_others h.1 (mark h.4 22 ∷ y.1))) same)),
      )

  args_from_takes : (n : ℕ) (ts : List Token) (x : Exprs × List Token) → r.args_from defs most inner n ts ≡ Some x → SomeArgs ts x
  unfolding r.args_from
  args_from_takes zero ts x is = cc
  args_from_takes (suc n) ts x is =
      let b = bind_some (inner 2 ts) (λ y. r.args_next defs most inner (r.args_from defs most inner n) y.0 y.1 (eat 28 y.1)) x is in
      let s = inner_takes 2 ts b.0 (omega arith) b.1 in
      args_next_takes (r.args_from defs most inner n) b.0.0 ts b.0.1 (eat 28 b.0.1) x (args_from_takes n) s.0 refl b.2

  args_by_takes : (ts : List Token) (o : Option (List Token)) (x : Exprs × List Token) → eat 22 ts ≡ o → r.args_by defs most inner ts o ≡ Some x → TakesArgs ts x
  args_by_takes ts None x at is = let h = args_from_takes (length ts) ts x is in (w.more_args h.0 h.1, h.2, h.3, h.4, h.5)
  args_by_takes ts (Some after) x at is = let f = eat_takes 22 ts after at in rw (← some_is is) (w.no_args, tt, refl, f.0, f.2)

  args_takes : (ts : List Token) (x : Exprs × List Token) → r.args defs most inner ts ≡ Some x → TakesArgs ts x
  unfolding r.args
  args_takes ts x is = args_by_takes ts (eat 22 ts) x refl is

  -- what has been read goes on
  abbrev GoesOn : ℕ → ℕ → List Token → (Expr → List Token → Read Expr) → Type 0
  GoesOn l line start more = (e : Expr) (ts : List Token) (x : Expr × List Token) → (s : Spells defs l e start ts) → first s.written ≡ line → expr_depth e ≤ most → more e ts ≡ Some x → Takes l start x

  -- the same after one step, with what it was read as
  on : (l line : ℕ) (start : List Token) (more : Expr → List Token → Read Expr) (v : Written) (e : Expr) (ts : List Token) (x : Expr × List Token) → GoesOn l line start more
      → IsLevelled defs v → l ≤ level v → plain v ≡ e → start ≡ spell v ts → first v ≡ line → (grown expr_depth most e ts >>= λ y. more y.0 y.1) ≡ Some x → Takes l start x
  on l line start more v e ts x goes ok high same tokens line_is is =
      let c = bind_some (grown expr_depth most e ts) (λ y. more y.0 y.1) x is in
      let g = grown_takes e ts c.0 c.1 in
      goes e ts x (record { written = v; levelled = (high, ok); plain_is = same; tokens = tokens }) line_is g.1 (ap (λ y. more y.0 y.1) g.0 ∙ c.2)

  -- a step and what goes on from it, part by part
  apart : (more : Expr → List Token → Read Expr) (o : Read Expr) → (o >>= λ y. grown expr_depth most y.0 y.1 >>= λ z. more z.0 z.1) ≡ r.again defs most inner more o
  apart more None = refl
  apart more (Some y) = refl

  -- a step whose part was read
  step_on : (more : Expr → List Token → Read Expr) (x : Expr × List Token) (y : Expr × List Token) (o : Read Expr) → o ≡ Some y → r.again defs most inner more o ≡ Some x → (grown expr_depth most y.0 y.1 >>= λ z. more z.0 z.1) ≡ Some x
  step_on more x y o at is = sym (ap (λ o. r.again defs most inner more o) at) ∙ is

  suffix_by_takes : (more : Expr → List Token → Read Expr) (line : ℕ) (start : List Token) (e : Expr) (ts : List Token) (o q u v : Option (List Token)) (z : Read StepOp) (x : Expr × List Token)
      → GoesOn 15 line start more → (s : Spells defs 15 e start ts) → first s.written ≡ line → expr_depth e ≤ most → eat 21 ts ≡ o → eat 23 ts ≡ q → eat 27 ts ≡ u → eat 4 ts ≡ v → front_mark step_of ts ≡ z
      → r.suffix_by defs most inner more line e ts o q u v z ≡ Some x → Takes 15 start x
  suffix_by_takes more line start e ts (Some after) q u v z x goes s line_is low at at2 at3 at4 at5 is =
      let b = bind_some (r.called defs most inner line e (r.args defs most inner after)) (λ y. grown expr_depth most y.0 y.1 >>= λ y. more y.0 y.1) x (apart more (r.called defs most inner line e (r.args defs most inner after)) ∙ is) in
      let c = bind_some (r.args defs most inner after) (λ y. Some (t.call line e y.0, y.1)) b.0 b.1 in
      let a = args_takes after c.0 c.1 in
      let f = eat_takes 21 ts after at in
      let same : (t.call line e c.0.0, c.0.1) ≡ b.0 = some_is c.2 in
      on 15 line start more (w.call s.written f.0 a.0 a.3) (t.call line e c.0.0) c.0.1 x goes (s.levelled.0, s.levelled.1, a.1) (omega arith)
      (ap (λ y. t.call y (plain s.written) (plains a.0)) line_is ∙ ap (λ y. t.call line y (plains a.0)) s.plain_is ∙ ap (t.call line e) a.2)
      (s.tokens ∙ ap (spell s.written) (f.2 ∙ ap (λ y. mark f.0 21 ∷ y) a.4)) line_is (ap (λ y. grown expr_depth most y.0 y.1 >>= λ y. more y.0 y.1) same ∙ b.2)
  suffix_by_takes more line start e ts None (Some after) u v z x goes s line_is low at at2 at3 at4 at5 is =
      let b = bind_some (r.indexed defs most inner line e (r.enclosed defs most inner 24 after)) (λ y. grown expr_depth most y.0 y.1 >>= λ y. more y.0 y.1) x (apart more (r.indexed defs most inner line e (r.enclosed defs most inner 24 after)) ∙ is) in
      let c = bind_some (r.enclosed defs most inner 24 after) (λ y. Some (t.index line e y.0, y.1)) b.0 b.1 in
      let a = enclosed_takes 24 after c.0 c.1 in
      let f = eat_takes 23 ts after at2 in
      let same : (t.index line e c.0.0, c.0.1) ≡ b.0 = some_is c.2 in
      on 15 line start more (w.index s.written f.0 a.1.written a.2.0) (t.index line e c.0.0) c.0.1 x goes (s.levelled.0, s.levelled.1, a.1.levelled.1) (omega arith)
      (ap (λ y. t.index y (plain s.written) (plain a.1.written)) line_is ∙ ap (λ y. t.index line y (plain a.1.written)) s.plain_is ∙ ap (t.index line e) a.1.plain_is)
      (s.tokens ∙ ap (spell s.written) (f.2 ∙ ap (λ y. mark f.0 23 ∷ y) (a.1.tokens ∙ ap (spell a.1.written) a.2.2))) line_is (ap (λ y. grown expr_depth most y.0 y.1 >>= λ y. more y.0 y.1) same ∙ b.2)
  suffix_by_takes more line start e ts None None (Some after) v z x goes s line_is low at at2 at3 at4 at5 is =
      let b = bind_some (r.selected defs most inner (t.member line) e (name_at defs after)) (λ y. grown expr_depth most y.0 y.1 >>= λ y. more y.0 y.1) x (apart more (r.selected defs most inner (t.member line) e (name_at defs after)) ∙ is) in
      let c = bind_some (name_at defs after) (λ y. Some (t.member line e y.0, y.1)) b.0 b.1 in
      let g = name_takes defs after c.0 c.1 in
      let f = eat_takes 27 ts after at3 in
      let same : (t.member line e c.0.0, c.0.1) ≡ b.0 = some_is c.2 in
      on 15 line start more (w.member s.written f.0 g.0.0 c.0.0) (t.member line e c.0.0) c.0.1 x goes (g.1, s.levelled.0, s.levelled.1) (omega arith)
      (ap (λ y. t.member y (plain s.written) c.0.0) line_is ∙ ap (λ y. t.member line y c.0.0) s.plain_is)
      (s.tokens ∙ ap (spell s.written) (f.2 ∙ ap (λ y. mark f.0 27 ∷ y) g.0.2)) line_is (ap (λ y. grown expr_depth most y.0 y.1 >>= λ y. more y.0 y.1) same ∙ b.2)
  suffix_by_takes more line start e ts None None None (Some after) z x goes s line_is low at at2 at3 at4 at5 is =
      let b = bind_some (r.selected defs most inner (t.arrow line) e (name_at defs after)) (λ y. grown expr_depth most y.0 y.1 >>= λ y. more y.0 y.1) x (apart more (r.selected defs most inner (t.arrow line) e (name_at defs after)) ∙ is) in
      let c = bind_some (name_at defs after) (λ y. Some (t.arrow line e y.0, y.1)) b.0 b.1 in
      let g = name_takes defs after c.0 c.1 in
      let f = eat_takes 4 ts after at4 in
      let same : (t.arrow line e c.0.0, c.0.1) ≡ b.0 = some_is c.2 in
      on 15 line start more (w.arrow s.written f.0 g.0.0 c.0.0) (t.arrow line e c.0.0) c.0.1 x goes (g.1, s.levelled.0, s.levelled.1) (omega arith)
      (ap (λ y. t.arrow y (plain s.written) c.0.0) line_is ∙ ap (λ y. t.arrow line y c.0.0) s.plain_is)
      (s.tokens ∙ ap (spell s.written) (f.2 ∙ ap (λ y. mark f.0 4 ∷ y) g.0.2)) line_is (ap (λ y. grown expr_depth most y.0 y.1 >>= λ y. more y.0 y.1) same ∙ b.2)
  suffix_by_takes more line start e ts None None None None (Some p) x goes s line_is low at at2 at3 at4 at5 is =
      let f = step_takes ts p at5 in
      on 15 line start more (w.post s.written f.0 p.0) (t.post line p.0 e) p.1 x goes (s.levelled.0, s.levelled.1) (omega arith)
      (ap (λ y. t.post y p.0 (plain s.written)) line_is ∙ ap (t.post line p.0) s.plain_is) (s.tokens ∙ ap (spell s.written) f.2) line_is is
  suffix_by_takes more line start e ts None None None None None x goes s line_is low at at2 at3 at4 at5 is = rw (← some_is is) (s, low)

  suffixes_take : (n line : ℕ) (start : List Token) → GoesOn 15 line start (r.suffixes defs most inner n line)
  unfolding r.suffixes
  suffixes_take zero line start e ts x s line_is low is = cc
  suffixes_take (suc n) line start e ts x s line_is low is =
      suffix_by_takes (r.suffixes defs most inner n line) line start e ts (eat 21 ts) (eat 23 ts) (eat 27 ts) (eat 4 ts) (front_mark step_of ts) x (suffixes_take n line start) s line_is low refl refl refl refl refl is

  first_of : (l : ℕ) (e : Expr) (ts after : List Token) (s : Spells defs l e ts after) → first s.written ≡ line_at ts
  first_of l e ts after s = sym (line_first s.written after) ∙ ap line_at (sym s.tokens)

  abbrev lower : (l m : ℕ) (e : Expr) (ts after : List Token) → l ≤ m → Spells defs m e ts after → Spells defs l e ts after
  lower l m e ts after le s = record { written = s.written; levelled = (omega (arith, s.levelled.0), s.levelled.1); plain_is = s.plain_is; tokens = s.tokens }

  postfix_takes : (ts : List Token) (x : Expr × List Token) → r.postfix defs most inner ts ≡ Some x → Takes 15 ts x
  unfolding r.postfix
  postfix_takes ts x is =
      let b = bind_some (r.primary defs most inner ts) (λ y. r.suffixes defs most inner (suc most) (line_at ts) y.0 y.1) x is in
      let p = primary_takes ts b.0 b.1 in
      let s = lower 15 16 b.0.0 ts b.0.1 (omega arith) p.0 in
      suffixes_take (suc most) (line_at ts) ts b.0.0 b.0.1 x s (first_of 15 b.0.0 ts b.0.1 s) p.1 b.2

  sized_by_takes : (line : ℕ) (start ts : List Token) (o : Option (List Token)) (x : Expr × List Token) → start ≡ word line 17 ∷ ts → type_bracket defs ts ≡ o
      → r.sized_by defs most inner line ts o ≡ Some x → Takes 14 start x
  sized_by_takes line start ts (Some after) x is_start at is =
      let b = bind_some (typed defs after >>= λ y. Some (t.size_of_type line y.0, y.1)) (λ y. grown expr_depth most y.0 y.1) x is in
      let c = bind_some (typed defs after) (λ y. Some (t.size_of_type line y.0, y.1)) b.0 b.1 in
      let s = typed_takes defs after c.0 c.1 in
      let f = type_takes defs ts after at in
      let same : (t.size_of_type line c.0.0, c.0.1) ≡ b.0 = some_is c.2 in
      let found : Spells defs 14 (t.size_of_type line c.0.0) start c.0.1 = record {
        written = w.size_of_type line f.0 s.1.0 s.2.0;
        levelled = (omega arith, s.1.1);
        plain_is = ap (t.size_of_type line) s.1.2;
        tokens = is_start ∙ ap (λ y. word line 17 ∷ y) (f.2 ∙ ap (λ y. mark f.0 21 ∷ y) (s.1.3 ∙ ap (spell_name s.1.0) s.2.2));
      } in
      grow_takes 14 start x (t.size_of_type line c.0.0, c.0.1) found (ap (λ y. grown expr_depth most y.0 y.1) same ∙ b.2)
  sized_by_takes line start ts None x is_start at is =
      let b = bind_some (inner 14 ts >>= λ y. Some (t.size_of line y.0, y.1)) (λ y. grown expr_depth most y.0 y.1) x is in
      let c = bind_some (inner 14 ts) (λ y. Some (t.size_of line y.0, y.1)) b.0 b.1 in
      let s = (inner_takes 14 ts c.0 (omega arith) c.1).0 in
      let same : (t.size_of line c.0.0, c.0.1) ≡ b.0 = some_is c.2 in
      let found : Spells defs 14 (t.size_of line c.0.0) start c.0.1 = record {
        written = w.size_of line s.written;
        levelled = (omega arith, (no_cast_read defs s.written ts c.0.1 s.levelled.1 s.tokens at, s.levelled.0, s.levelled.1));
        plain_is = ap (t.size_of line) s.plain_is;
        tokens = is_start ∙ ap (λ y. word line 17 ∷ y) s.tokens;
      } in
      grow_takes 14 start x (t.size_of line c.0.0, c.0.1) found (ap (λ y. grown expr_depth most y.0 y.1) same ∙ b.2)

  prefixed_by_takes : (ts : List Token) (o : Read UnaryOp) (q u : Option (List Token)) (x : Expr × List Token) → front_mark unary_of ts ≡ o → eat_word 17 ts ≡ q → type_bracket defs ts ≡ u
      → r.prefixed_by defs most inner (line_at ts) ts o q u ≡ Some x → Takes 14 ts x
  prefixed_by_takes ts (Some p) q u x at at2 at3 is =
      let b = bind_some (inner 14 p.1 >>= λ y. Some (t.unary (line_at ts) p.0 y.0, y.1)) (λ y. grown expr_depth most y.0 y.1) x is in
      let c = bind_some (inner 14 p.1) (λ y. Some (t.unary (line_at ts) p.0 y.0, y.1)) b.0 b.1 in
      let s = (inner_takes 14 p.1 c.0 (omega arith) c.1).0 in
      let f = unary_takes ts p at in
      let same : (t.unary (line_at ts) p.0 c.0.0, c.0.1) ≡ b.0 = some_is c.2 in
      let found : Spells defs 14 (t.unary (line_at ts) p.0 c.0.0) ts c.0.1 = record {
        written = w.unary f.0 p.0 s.written;
        levelled = (omega arith, (s.levelled.0, s.levelled.1));
        plain_is = ap (λ y. t.unary y p.0 (plain s.written)) (sym f.1) ∙ ap (t.unary (line_at ts) p.0) s.plain_is;
        tokens = f.2 ∙ ap (λ y. mark f.0 (unary_mark p.0) ∷ y) s.tokens;
      } in
      grow_takes 14 ts x (t.unary (line_at ts) p.0 c.0.0, c.0.1) found (ap (λ y. grown expr_depth most y.0 y.1) same ∙ b.2)
  prefixed_by_takes ts None (Some after) u x at at2 at3 is =
      let f = word_takes 17 ts after at2 in
      let is_start : ts ≡ word (line_at ts) 17 ∷ after = f.2 ∙ ap (λ y. word y 17 ∷ after) (sym f.1) in
      sized_by_takes (line_at ts) ts after (type_bracket defs after) x is_start refl is
  prefixed_by_takes ts None None (Some after) x at at2 at3 is =
      let b = bind_some (typed defs after >>= λ y. inner 14 y.1 >>= λ z. Some (t.cast (line_at ts) y.0 z.0, z.1)) (λ y. grown expr_depth most y.0 y.1) x is in
      let d = bind_some (typed defs after) (λ y. inner 14 y.1 >>= λ z. Some (t.cast (line_at ts) y.0 z.0, z.1)) b.0 b.1 in
      let y = typed_takes defs after d.0 d.1 in
      let c = bind_some (inner 14 d.0.1) (λ z. Some (t.cast (line_at ts) d.0.0 z.0, z.1)) b.0 d.2 in
      let s = (inner_takes 14 d.0.1 c.0 (omega arith) c.1).0 in
      let f = type_takes defs ts after at3 in
      let same : (t.cast (line_at ts) d.0.0 c.0.0, c.0.1) ≡ b.0 = some_is c.2 in
      let found : Spells defs 14 (t.cast (line_at ts) d.0.0 c.0.0) ts c.0.1 = record {
        written = w.cast f.0 y.1.0 y.2.0 s.written;
        levelled = (omega arith, (s.levelled.0, y.1.1, s.levelled.1));
        plain_is = ap (λ z. t.cast z (plain_name y.1.0) (plain s.written)) (sym f.1) ∙ ap (λ z. t.cast (line_at ts) z (plain s.written)) y.1.2 ∙ ap (t.cast (line_at ts) d.0.0) s.plain_is;
        tokens = f.2 ∙ ap (λ z. mark f.0 21 ∷ z) (y.1.3 ∙ ap (spell_name y.1.0) (y.2.2 ∙ ap (λ z. mark y.2.0 22 ∷ z) s.tokens));
      } in
      grow_takes 14 ts x (t.cast (line_at ts) d.0.0 c.0.0, c.0.1) found (ap (λ y. grown expr_depth most y.0 y.1) same ∙ b.2)
  prefixed_by_takes ts None None None x at at2 at3 is =
      let h = postfix_takes ts x is in
      (lower 14 15 x.0 ts x.1 (omega arith) h.0, h.1)

  prefixed_takes : (ts : List Token) (x : Expr × List Token) → r.prefixed defs most inner ts ≡ Some x → Takes 14 ts x
  unfolding r.prefixed
  prefixed_takes ts x is = prefixed_by_takes ts (front_mark unary_of ts) (eat_word 17 ts) (type_bracket defs ts) x refl refl refl is

  abbrev TakesAll : ℕ → List Token → Expr × List Token → Type 0
  TakesAll l ts x = Spells defs l x.0 ts x.1 × (expr_depth x.0 ≤ most) × Stops l x.1

  abbrev Climbs : ℕ → ℕ → List Token → (Expr → List Token → Read Expr) → Type 0
  Climbs l line start more = (e : Expr) (ts : List Token) (x : Expr × List Token) → (s : Spells defs l e start ts) → first s.written ≡ line → expr_depth e ≤ most → Binds ts (level s.written) → more e ts ≡ Some x → TakesAll l start x

  climb_by_takes : (more : Expr → List Token → Read Expr) (l line : ℕ) (start : List Token) (e : Expr) (ts : List Token) (o : Read BinaryOp) (x : Expr × List Token)
      → Climbs l line start more → (s : Spells defs l e start ts) → first s.written ≡ line → expr_depth e ≤ most → Binds ts (level s.written) → operator_at l ts ≡ o
      → r.climb_by defs most inner more line e ts o ≡ Some x → TakesAll l start x
  climb_by_takes more l line start e ts None x climbs s line_is low binds at is = rw (← some_is is) (s, low, at)
  climb_by_takes more l line start e ts (Some p) x climbs s line_is low binds at is =
      let four : 4 ≤ binary_level p.0 = (binary_range p.0).0 in
      let bound : binary_level p.0 ≤ 13 = (binary_range p.0).1 in
      let f = operator_takes l ts p at in
      let b = bind_some (inner (suc (binary_level p.0)) p.1 >>= λ y. Some (t.binary line p.0 e y.0, y.1)) (λ y. grown expr_depth most y.0 y.1 >>= λ z. more z.0 z.1) x (apart more (inner (suc (binary_level p.0)) p.1 >>= λ y. Some (t.binary line p.0 e y.0, y.1)) ∙ is) in
      let d = bind_some (inner (suc (binary_level p.0)) p.1) (λ y. Some (t.binary line p.0 e y.0, y.1)) b.0 b.1 in
      let a = inner_takes (suc (binary_level p.0)) p.1 d.0 (omega arith) d.1 in
      let same : (t.binary line p.0 e d.0.0, d.0.1) ≡ b.0 = some_is d.2 in
      let c = bind_some (grown expr_depth most (t.binary line p.0 e d.0.0) d.0.1) (λ z. more z.0 z.1) x (ap (λ y. grown expr_depth most y.0 y.1 >>= λ z. more z.0 z.1) same ∙ b.2) in
      let g = grown_takes (t.binary line p.0 e d.0.0) d.0.1 c.0 c.1 in
      let tight = binds p (operator_some 4 l ts p four at) in
      let longer : Spells defs l (t.binary line p.0 e d.0.0) start d.0.1 = record {
        written = w.binary s.written f.0.0 p.0 a.0.written;
        levelled = (f.1, (tight, a.0.levelled.0, s.levelled.1, a.0.levelled.1));
        plain_is = ap (λ y. t.binary y p.0 (plain s.written) (plain a.0.written)) line_is ∙ ap (λ y. t.binary line p.0 y (plain a.0.written)) s.plain_is ∙ ap (t.binary line p.0 e) a.0.plain_is;
        tokens = s.tokens ∙ ap (spell s.written) (f.0.2 ∙ ap (λ y. mark f.0.0 (binary_mark p.0) ∷ y) a.0.tokens);
      } in
      climbs (t.binary line p.0 e d.0.0) d.0.1 x longer line_is g.1 (binds_after (binary_level p.0) d.0.1 a.2) (ap (λ y. more y.0 y.1) g.0 ∙ c.2)

  climb_takes : (n l line : ℕ) (start : List Token) → Climbs l line start (r.climb defs most inner n line l)
  unfolding r.climb
  climb_takes zero l line start e ts x s line_is low binds is = cc
  climb_takes (suc n) l line start e ts x s line_is low binds is =
      climb_by_takes (r.climb defs most inner n line l) l line start e ts (operator_at l ts) x (climb_takes n l line start) s line_is low binds refl is

  choice_by_takes : (l : ℕ) (start : List Token) (e : Expr) (ts : List Token) (o : Option (List Token)) (x : Expr × List Token) → TakesAll (max l 4) start (e, ts) → choice_at l ts ≡ o
      → r.choice_by defs most inner (line_at start) e ts o ≡ Some x → TakesAll l start x
  choice_by_takes l start e ts None x h at is = rw (← some_is is) (lower l (max l 4) e start ts (omega arith) h.0, h.1, stops_low l (max l 4) ts (omega arith) h.2)
  choice_by_takes l start e ts (Some after) x h at is =
      let f = choice_takes l ts after at in
      let b = bind_some (r.enclosed defs most inner 30 after >>= λ y. inner 3 y.1 >>= λ z. Some (t.choice (line_at start) e y.0 z.0, z.1)) (λ y. grown expr_depth most y.0 y.1) x is in
      let d = bind_some (r.enclosed defs most inner 30 after) (λ y. inner 3 y.1 >>= λ z. Some (t.choice (line_at start) e y.0 z.0, z.1)) b.0 b.1 in
      let m = enclosed_takes 30 after d.0 d.1 in
      let c = bind_some (inner 3 d.0.1) (λ z. Some (t.choice (line_at start) e d.0.0 z.0, z.1)) b.0 d.2 in
      let a = inner_takes 3 d.0.1 c.0 (omega arith) c.1 in
      let same : (t.choice (line_at start) e d.0.0 c.0.0, c.0.1) ≡ b.0 = some_is c.2 in
      let g = grown_takes (t.choice (line_at start) e d.0.0 c.0.0) c.0.1 x (ap (λ y. grown expr_depth most y.0 y.1) same ∙ b.2) in
      let found : Spells defs l (t.choice (line_at start) e d.0.0 c.0.0) start c.0.1 = record {
        written = w.choice h.0.written f.0.0 m.1.written m.2.0 a.0.written;
        levelled = (f.1, (omega (arith, h.0.levelled.0), a.0.levelled.0, h.0.levelled.1, m.1.levelled.1, a.0.levelled.1));
        plain_is = ap (λ y. t.choice y (plain h.0.written) (plain m.1.written) (plain a.0.written)) (first_of (max l 4) e start ts h.0)
            ∙ ap (λ y. t.choice (line_at start) y (plain m.1.written) (plain a.0.written)) h.0.plain_is
            ∙ ap (λ y. t.choice (line_at start) e y (plain a.0.written)) m.1.plain_is ∙ ap (t.choice (line_at start) e d.0.0) a.0.plain_is;
        tokens = h.0.tokens ∙ ap (spell h.0.written) (f.0.2 ∙ ap (λ y. mark f.0.0 31 ∷ y) (m.1.tokens ∙ ap (spell m.1.written) (m.2.2 ∙ ap (λ y. mark m.2.0 30 ∷ y) a.0.tokens)));
      } in
      rw (← g.0) (found, g.1, stops_low l 3 c.0.1 (omega arith) a.2)

  rest_by_takes : (n l : ℕ) (start : List Token) (e : Expr) (ts : List Token) (o : Read AssignOp) (x : Expr × List Token) → l ≤ 14 → Spells defs 14 e start ts → expr_depth e ≤ most → assigned_at l ts ≡ o
      → r.rest_by defs most inner n (line_at start) l e ts o ≡ Some x → TakesAll l start x
  rest_by_takes n l start e ts (Some p) x bound s low at is =
      let f = assigned_takes l ts p at in
      let b = bind_some (inner 2 p.1 >>= λ y. Some (t.assign (line_at start) p.0 e y.0, y.1)) (λ y. grown expr_depth most y.0 y.1) x is in
      let d = bind_some (inner 2 p.1) (λ y. Some (t.assign (line_at start) p.0 e y.0, y.1)) b.0 b.1 in
      let a = inner_takes 2 p.1 d.0 (omega arith) d.1 in
      let same : (t.assign (line_at start) p.0 e d.0.0, d.0.1) ≡ b.0 = some_is d.2 in
      let g = grown_takes (t.assign (line_at start) p.0 e d.0.0) d.0.1 x (ap (λ y. grown expr_depth most y.0 y.1) same ∙ b.2) in
      let found : Spells defs l (t.assign (line_at start) p.0 e d.0.0) start d.0.1 = record {
        written = w.assign s.written f.0.0 p.0 a.0.written;
        levelled = (f.1, (s.levelled.0, a.0.levelled.0, s.levelled.1, a.0.levelled.1));
        plain_is = ap (λ y. t.assign y p.0 (plain s.written) (plain a.0.written)) (first_of 14 e start ts s) ∙ ap (λ y. t.assign (line_at start) p.0 y (plain a.0.written)) s.plain_is ∙ ap (t.assign (line_at start) p.0 e) a.0.plain_is;
        tokens = s.tokens ∙ ap (spell s.written) (f.0.2 ∙ ap (λ y. mark f.0.0 (assign_mark p.0) ∷ y) a.0.tokens);
      } in
      rw (← g.0) (found, g.1, stops_low l 2 d.0.1 (omega arith) a.2)
  rest_by_takes n l start e ts None x bound s low at is =
      let b = bind_some (r.climb defs most inner n (line_at start) (max l 4) e ts) (λ y. r.choice_by defs most inner (line_at start) y.0 y.1 (choice_at l y.1)) x is in
      let v = lower (max l 4) 14 e start ts (omega arith) s in
      let h = climb_takes n (max l 4) (line_at start) start e ts b.0 v (first_of 14 e start ts s) low (λ p next. let range : binary_level p.0 ≤ 13 = (binary_range p.0).1 in omega (arith, range, s.levelled.0)) b.1 in
      choice_by_takes l start b.0.0 b.0.1 (choice_at l b.0.1) x h refl b.2

  item_takes : (l : ℕ) (ts : List Token) (x : Expr × List Token) → l ≤ 14 → r.item defs most inner l ts ≡ Some x → TakesAll l ts x
  unfolding r.item r.rest
  item_takes l ts x bound is =
      let b = bind_some (r.prefixed defs most inner ts) (λ y. r.rest defs most inner (suc most) (line_at ts) l y.0 y.1) x is in
      let p = prefixed_takes ts b.0 b.1 in
      rest_by_takes (suc most) l ts b.0.0 b.0.1 (assigned_at l b.0.1) x bound p.0 p.1 refl b.2

  abbrev CommaOn : ℕ → List Token → (Expr → List Token → Read Expr) → Type 0
  CommaOn l start more = (e : Expr) (ts : List Token) (x : Expr × List Token) → TakesAll l start (e, ts) → more e ts ≡ Some x → TakesAll l start x

  commas_by_take : (more : Expr → List Token → Read Expr) (l : ℕ) (start : List Token) (e : Expr) (ts : List Token) (o : Option (List Token)) (x : Expr × List Token)
      → CommaOn l start more → TakesAll l start (e, ts) → comma_at l ts ≡ o → r.commas_by defs most inner more (line_at start) e ts o ≡ Some x → TakesAll l start x
  commas_by_take more l start e ts None x goes h at is = rw (← some_is is) h
  commas_by_take more l start e ts (Some after) x goes h at is =
      let f = comma_takes l ts after at in
      let b = bind_some (inner 2 after >>= λ y. Some (t.comma (line_at start) e y.0, y.1)) (λ y. grown expr_depth most y.0 y.1 >>= λ z. more z.0 z.1) x (apart more (inner 2 after >>= λ y. Some (t.comma (line_at start) e y.0, y.1)) ∙ is) in
      let d = bind_some (inner 2 after) (λ y. Some (t.comma (line_at start) e y.0, y.1)) b.0 b.1 in
      let a = inner_takes 2 after d.0 (omega arith) d.1 in
      let same : (t.comma (line_at start) e d.0.0, d.0.1) ≡ b.0 = some_is d.2 in
      let c = bind_some (grown expr_depth most (t.comma (line_at start) e d.0.0) d.0.1) (λ z. more z.0 z.1) x (ap (λ y. grown expr_depth most y.0 y.1 >>= λ z. more z.0 z.1) same ∙ b.2) in
      let g = grown_takes (t.comma (line_at start) e d.0.0) d.0.1 c.0 c.1 in
      let longer : Spells defs l (t.comma (line_at start) e d.0.0) start d.0.1 = record {
        written = w.comma h.0.written f.0.0 a.0.written;
        levelled = (f.1, ((level_range h.0.written).0, a.0.levelled.0, h.0.levelled.1, a.0.levelled.1));
        plain_is = ap (λ y. t.comma y (plain h.0.written) (plain a.0.written)) (first_of l e start ts h.0) ∙ ap (λ y. t.comma (line_at start) y (plain a.0.written)) h.0.plain_is ∙ ap (t.comma (line_at start) e) a.0.plain_is;
        tokens = h.0.tokens ∙ ap (spell h.0.written) (f.0.2 ∙ ap (λ y. mark f.0.0 28 ∷ y) a.0.tokens);
      } in
      goes (t.comma (line_at start) e d.0.0) d.0.1 x (longer, g.1, stops_low l 2 d.0.1 (omega arith) a.2) (ap (λ y. more y.0 y.1) g.0 ∙ c.2)

  commas_take : (n l : ℕ) (start : List Token) → CommaOn l start (r.commas defs most inner n (line_at start) l)
  unfolding r.commas
  commas_take zero l start e ts x h is = cc
  commas_take (suc n) l start e ts x h is = commas_by_take (r.commas defs most inner n (line_at start) l) l start e ts (comma_at l ts) x (commas_take n l start) h refl is

  level_takes : (l : ℕ) (ts : List Token) (x : Expr × List Token) → l ≤ 14 → r.level defs most inner l ts ≡ Some x → TakesAll l ts x
  unfolding r.level
  level_takes l ts x bound is =
      let b = bind_some (r.item defs most inner (max l 2) ts) (λ y. r.commas defs most inner (suc most) (line_at ts) l y.0 y.1) x is in
      let h = item_takes (max l 2) ts b.0 (omega arith) b.1 in
      commas_take (suc most) l ts b.0.0 b.0.1 x (lower l (max l 2) b.0.0 ts b.0.1 (omega arith) h.0, h.1, stops_low l (max l 2) b.0.1 (omega arith) h.2) b.2

-- What is read is spelled so, and is no deeper than the first number.
pub expr_takes : (defs : List Name) (most n : ℕ) → 1 ≤ most → (l : ℕ) (ts : List Token) (x : Expr × List Token) → l ≤ 14 → r.expr defs most n l ts ≡ Some x
    → Spells defs l x.0 ts x.1 × (expr_depth x.0 ≤ most) × Stops l x.1
unfolding r.expr
expr_takes defs most zero positive l ts x bound is = cc
expr_takes defs most (suc n) positive l ts x bound is = level_takes defs most positive (r.expr defs most n) (expr_takes defs most n positive) l ts x bound is
