-- What a loop has read, in front of what is still to be read.
use Rattle.std.proofs.Common.{◌≡◌, ℕ, suc, List, [], ◌∷◌, ◌++◌, map, Option, Some, None, is_some, true, false, refl, ap, sym}
use Rattle.std.specs.Option.{option_map}
use Rattle.c_lex.specs.Tokens.{Token}
use Rattle.c_grammar.specs.Words.{close_brace}
use Rattle.c_tree.specs.declared.decl.LocalDecl.{LocalDecl}
use Rattle.c_tree.specs.declared.stmt.Stmt.{Stmt}
use Rattle.c_tree.specs.declared.stmt.SwItem.{SwItem}
use Rattle.c_tree.specs.TreeStmt as t
use Rattle.c_tree.specs.TreeOf.{local_of, stmt_of, stmts_from, sw_item_of, sw_items_from}
use Rattle.c_expr.specs.Front.{Read, ◌>>=◌, eat}
use Rattle.c_decl.specs.declared.reader.Reader.{Reader}
use Rattle.c_decl.specs.Answers.{rest}
use Rattle.c_parse.specs.ReadStmt as s
use Rattle.c_parse.specs.Words as w

module _ {X Y L : Type 0} (view : X → Y) (cons : Y → L → L) where
  abbrev pub joined : List X → L → L
  joined [] l = l
  joined (x ∷ xs) l = cons (view x) (joined xs l)

  joined_push : (xs : List X) (x : X) (l : L) → joined (xs ++ x ∷ []) l ≡ joined xs (cons (view x) l)
  joined_push [] x l = refl
  joined_push (y ∷ xs) x l = ap (cons (view y)) (joined_push xs x l)

  abbrev pub with_front : List X → Read L → Read L
  with_front xs o = o >>= λ y. Some (joined xs y.0, y.1)

  pub with_none : (o : Read L) → with_front [] o ≡ o
  with_none None = refl
  with_none (Some y) = refl

  pub with_push : (xs : List X) (x : X) (o : Read L) → with_front (xs ++ x ∷ []) o ≡ with_front xs (o >>= λ y. Some (cons (view x) y.0, y.1))
  with_push xs x None = refl
  with_push xs x (Some y) = ap (λ l. Some (l, y.1)) (joined_push xs x y.0)

-- ---- the declarations at the head of a block

pub joined_locals : (xs : List LocalDecl) → joined local_of ◌∷◌ xs [] ≡ map local_of xs
joined_locals [] = refl
joined_locals (x ∷ xs) = ap (λ l. local_of x ∷ l) (joined_locals xs)

pub locals_turn : (r : Reader) (m k : ℕ) (xs : List LocalDecl) (x : LocalDecl) (ts after : List Token) → m ≡ suc k → w.begins_local r ts ≡ true → w.local r ts ≡ Some (local_of x, after)
    → with_front local_of ◌∷◌ (xs ++ x ∷ []) (w.locals r k after) ≡ with_front local_of ◌∷◌ xs (w.locals r m ts)
unfolding s.locals
locals_turn r m k xs x ts after count begins is = rw (count, begins, is) (with_push local_of ◌∷◌ xs x (w.locals r k after))

pub locals_end : (r : Reader) (m k : ℕ) (xs : List LocalDecl) (ts : List Token) → m ≡ suc k → w.begins_local r ts ≡ false → with_front local_of ◌∷◌ xs (w.locals r m ts) ≡ Some (map local_of xs, ts)
unfolding s.locals
locals_end r m k xs ts count begins = rw (count, begins) (ap (λ l. Some (l, ts)) (joined_locals xs))

pub locals_none : (r : Reader) (m k : ℕ) (xs : List LocalDecl) (ts : List Token) → m ≡ suc k → w.begins_local r ts ≡ true → w.local r ts ≡ None → with_front local_of ◌∷◌ xs (w.locals r m ts) ≡ None
unfolding s.locals
locals_none r m k xs ts count begins is = rw (count, begins, is) refl

pub locals_spent : (r : Reader) (xs : List LocalDecl) (ts : List Token) → with_front local_of ◌∷◌ xs (w.locals r 0 ts) ≡ None
unfolding s.locals
locals_spent r xs ts = refl

-- ---- the statements of a block, and the body of a `switch`

pub is_eaten : (r : Reader) (m : ℕ) (o : Option ℕ) (ts : List Token) → option_map (λ k. rest r k) o ≡ eat m ts → true ≡ is_some o → (after : List Token) × (eat m ts ≡ Some after)
is_eaten r m None ts same there = cc
is_eaten r m (Some k) ts same there = (rest r k, sym same)

pub is_not_eaten : (r : Reader) (m : ℕ) (o : Option ℕ) (ts : List Token) → option_map (λ k. rest r k) o ≡ eat m ts → false ≡ is_some o → eat m ts ≡ None
is_not_eaten r m None ts same there = sym same
is_not_eaten r m (Some k) ts same there = cc

joined_stmts : (xs : List Stmt) → joined stmt_of t.more_stmts xs t.no_stmts ≡ stmts_from xs
joined_stmts [] = refl
joined_stmts (x ∷ xs) = ap (t.more_stmts (stmt_of x)) (joined_stmts xs)

pub stmts_turn : (r : Reader) (n m k : ℕ) (xs : List Stmt) (x : Stmt) (ts after : List Token) → m ≡ suc k → eat close_brace ts ≡ None → w.stmt r n ts ≡ Some (stmt_of x, after)
    → with_front stmt_of t.more_stmts (xs ++ x ∷ []) (w.stmts r n k after) ≡ with_front stmt_of t.more_stmts xs (w.stmts r n m ts)
unfolding s.stmts
stmts_turn r n m k xs x ts after count goes_on is = rw (count, goes_on, is) (with_push stmt_of t.more_stmts xs x (w.stmts r n k after))

pub stmts_end : (r : Reader) (n m k : ℕ) (xs : List Stmt) (ts after : List Token) → m ≡ suc k → eat close_brace ts ≡ Some after → with_front stmt_of t.more_stmts xs (w.stmts r n m ts) ≡ Some (stmts_from xs, ts)
unfolding s.stmts
stmts_end r n m k xs ts after count ends = rw (count, ends) (ap (λ l. Some (l, ts)) (joined_stmts xs))

joined_items : (xs : List SwItem) → joined sw_item_of t.more_items xs t.no_items ≡ sw_items_from xs
joined_items [] = refl
joined_items (x ∷ xs) = ap (t.more_items (sw_item_of x)) (joined_items xs)

pub items_turn : (r : Reader) (n m k : ℕ) (xs : List SwItem) (x : SwItem) (ts after : List Token) → m ≡ suc k → eat close_brace ts ≡ None → w.item r n ts ≡ Some (sw_item_of x, after)
    → with_front sw_item_of t.more_items (xs ++ x ∷ []) (w.items r n k after) ≡ with_front sw_item_of t.more_items xs (w.items r n m ts)
unfolding s.items
items_turn r n m k xs x ts after count goes_on is = rw (count, goes_on, is) (with_push sw_item_of t.more_items xs x (w.items r n k after))

pub items_end : (r : Reader) (n m k : ℕ) (xs : List SwItem) (ts after : List Token) → m ≡ suc k → eat close_brace ts ≡ Some after → with_front sw_item_of t.more_items xs (w.items r n m ts) ≡ Some (sw_items_from xs, ts)
unfolding s.items
items_end r n m k xs ts after count ends = rw (count, ends) (ap (λ l. Some (l, ts)) (joined_items xs))
