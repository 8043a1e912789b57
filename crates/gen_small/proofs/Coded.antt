-- The code of the small form has each label and each start once, and instructions that have an encoding.
use Rattle.std.proofs.Common.{◌≡◌, ℕ, zero, suc, ◌+◌, ◌-◌, ◌*◌, ◌<◌, ◌≤◌, ◌⊎◌, inl, inr, List, [], ◌∷◌, ◌++◌, Bool, true, false, length, refl, sym, subst, arith, length-append, append-nil}
use Rattle.std.specs.Prelude.{nat_eq, if◌then◌else◌, Some}
use Rattle.std.specs.List.{flat_map}
use Rattle.isa386.specs.Encoding.{encoding}
use Rattle.isa386.specs.Row.{IsRow, IsOperand}
use Rattle.isa_dec.proofs.Numbers.{word_fits}
use Rattle.c_run.specs.Values.{Target, Body}
use Rattle.c_tree.specs.TExpr.{Local, TExpr, name, int, convert, binary, assign, call, no_args, more_args}
use Rattle.c_tree.specs.TStmt.{Local as Declarator, auto, locals, TStmt, TStmts, expr, while_, return_, block, no_stmts, more_stmts}
use Rattle.c_tree.specs.declared.TBinary.{TBinary}
use Rattle.c_tree.specs.declared.TBinary.TheVariants.{Add, Sub}
use Rattle.c_tree.specs.Starts.{Start as SourceStart, at, starts_local, starts_stmt, starts_stmts}
use Rattle.gen_small.specs.Items.{Name, Entry, Close, Top, End, Item, Start, Open, Op, Label, Goto, If, CallTo}
use Rattle.isa386.specs.declared.Way.{Way}
use Rattle.isa386.specs.declared.Way.TheVariants.{ToOperand, ToRegister}
use Rattle.isa386.specs.declared.Ins.TheVariants.{Move}
use Rattle.c_tree.specs.Bodies.{BodyAt, autos}
use Rattle.c_run.specs.Context.{Linked}
use Rattle.c_run.specs.Calls.{frame_of}
use Rattle.c_type.specs.Names.{pick}
use Rattle.gen_small.specs.Laid.{is_label, is_start}
use Rattle.gen_small.specs.Code.{Site, inside, below, locals_size, local_depth, temp_depth, load_from, store_to, operator, put_code, target_of, is_putchar, expr_code, tested, again, stmt_code, stmts_code, zero_code, entered, closed}
use Rattle.gen_small.specs.Small.{IsSum, IsVariable, IsSmall}
use Rattle.gen_small.specs.Mains.{AllInt, AllPlain}
use Rattle.gen_small.specs.Whole.{whole_code, IsFormMain}
use Rattle.gen_small.specs.Forms.{AreThere, IsFormStmt, IsFormStmts, IsNumbered}
use Rattle.gen_small.proofs.Entering.{rounded_ints, rounded_take}
use Rattle.gen_small.proofs.Laying.{Lacks, Once, AreEncoded}

-- an item without label or start, whose instruction has an encoding
abbrev pub IsBare : Item → Type 0
IsBare (Op i) = IsRow i × (0 < length (encoding i))
IsBare _ = ⊥

abbrev pub AreBare : List Item → Type 0
AreBare [] = Unit {0}
AreBare (x ∷ xs) = IsBare x × AreBare xs

-- an item whose label or start, if it has one, is of a statement with a number from lo to below hi
abbrev pub IsIn : ℕ → ℕ → Item → Type 0
IsIn lo hi (Label (Top f k)) = (lo ≤ k) × (k < hi)
IsIn lo hi (Label (End f k)) = (lo ≤ k) × (k < hi)
IsIn lo hi (Label _) = ⊥
IsIn lo hi (Start k) = (lo ≤ k) × (k < hi)
IsIn lo hi (Open k) = ⊥
IsIn lo hi _ = Unit {0}

abbrev pub AreIn : ℕ → ℕ → List Item → Type 0
AreIn lo hi [] = Unit {0}
AreIn lo hi (x ∷ xs) = IsIn lo hi x × AreIn lo hi xs

bare_append : (xs ys : List Item) → AreBare xs → AreBare ys → AreBare (xs ++ ys)
bare_append [] ys h g = g
bare_append (x ∷ xs) ys h g = (h.0, bare_append xs ys h.1 g)

lacks_append : (which : Item → Bool) (xs ys : List Item) → Lacks which xs → Lacks which ys → Lacks which (xs ++ ys)
lacks_append which [] ys h g = g
lacks_append which (x ∷ xs) ys h g = (h.0, lacks_append which xs ys h.1 g)

in_append : (lo hi : ℕ) (xs ys : List Item) → AreIn lo hi xs → AreIn lo hi ys → AreIn lo hi (xs ++ ys)
in_append lo hi [] ys h g = g
in_append lo hi (x ∷ xs) ys h g = (h.0, in_append lo hi xs ys h.1 g)

encoded_append : (xs ys : List Item) → AreEncoded xs → AreEncoded ys → AreEncoded (xs ++ ys)
encoded_append [] ys h g = g
encoded_append (x ∷ xs) ys h g = (h.0, encoded_append xs ys h.1 g)

-- bare items have no label and no start
bare_op : (P : Item → Type 0) → ((i : _) → P (Op i)) → (x : Item) → IsBare x → P x
bare_op P h (Op i) b = h i
bare_op P h _ b = absurd b

bare_lacks_label : (n : Name) (xs : List Item) → AreBare xs → Lacks (is_label n) xs
bare_lacks_label n [] h = tt
bare_lacks_label n (Op i ∷ xs) h = (refl, bare_lacks_label n xs h.1)
bare_lacks_label n (_ ∷ xs) h = absurd h.0

bare_lacks_start : (k : ℕ) (xs : List Item) → AreBare xs → Lacks (is_start k) xs
bare_lacks_start k [] h = tt
bare_lacks_start k (Op i ∷ xs) h = (refl, bare_lacks_start k xs h.1)
bare_lacks_start k (_ ∷ xs) h = absurd h.0

bare_in : (lo hi : ℕ) (xs : List Item) → AreBare xs → AreIn lo hi xs
bare_in lo hi [] h = tt
bare_in lo hi (Op i ∷ xs) h = (tt, bare_in lo hi xs h.1)
bare_in lo hi (_ ∷ xs) h = absurd h.0

bare_encoded : (xs : List Item) → AreBare xs → AreEncoded xs
bare_encoded [] h = tt
bare_encoded (Op i ∷ xs) h = (h.0, bare_encoded xs h.1)
bare_encoded (_ ∷ xs) h = absurd h.0

bare_once : (xs ys : List Item) → AreBare xs → Once ys → Once (xs ++ ys)
bare_once [] ys h g = g
bare_once (Op i ∷ xs) ys h g = bare_once xs ys h.1 g
bare_once (_ ∷ xs) ys h g = absurd h.0

other_number : (k j : ℕ) → (k < j) ⊎ (j < k) → nat_eq k j ≡ false
other_number k j h = grind arith

other_label : (f g k j : ℕ) → nat_eq k j ≡ false → (if nat_eq f g then nat_eq k j else false) ≡ false
other_label f g k j e = cases (nat_eq f g)
  where
    cases : (b : Bool) → (if b then nat_eq k j else false) ≡ false
    cases true = e
    cases false = refl

-- numbers from lo to below hi are not those of these items
record Free (lo hi : ℕ) (xs : List Item) : Type 0 where
  tops : (f k : ℕ) → lo ≤ k → k < hi → Lacks (is_label (Top f k)) xs
  ends : (f k : ℕ) → lo ≤ k → k < hi → Lacks (is_label (End f k)) xs
  starts : (k : ℕ) → lo ≤ k → k < hi → Lacks (is_start k) xs

outside : (k j lo hi : ℕ) → (k < lo) ⊎ (hi ≤ k) → lo ≤ j → j < hi → nat_eq k j ≡ false
outside k j lo hi h low high = other_number k j (elim h [ inl lt ↦ inl (omega arith) | inr le ↦ inr (omega arith) ])

in_lacks_top : (f k lo hi : ℕ) (xs : List Item) → (k < lo) ⊎ (hi ≤ k) → AreIn lo hi xs → Lacks (is_label (Top f k)) xs
in_lacks_top f k lo hi [] out h = tt
in_lacks_top f k lo hi (Label (Top g j) ∷ xs) out h = (other_label f g k j (outside k j lo hi out h.0.0 h.0.1), in_lacks_top f k lo hi xs out h.1)
in_lacks_top f k lo hi (Label (End g j) ∷ xs) out h = (refl, in_lacks_top f k lo hi xs out h.1)
in_lacks_top f k lo hi (Label _ ∷ xs) out h = absurd h.0
in_lacks_top f k lo hi (Open j ∷ xs) out h = absurd h.0
in_lacks_top f k lo hi (_ ∷ xs) out h = (refl, in_lacks_top f k lo hi xs out h.1)

in_lacks_end : (f k lo hi : ℕ) (xs : List Item) → (k < lo) ⊎ (hi ≤ k) → AreIn lo hi xs → Lacks (is_label (End f k)) xs
in_lacks_end f k lo hi [] out h = tt
in_lacks_end f k lo hi (Label (End g j) ∷ xs) out h = (other_label f g k j (outside k j lo hi out h.0.0 h.0.1), in_lacks_end f k lo hi xs out h.1)
in_lacks_end f k lo hi (Label (Top g j) ∷ xs) out h = (refl, in_lacks_end f k lo hi xs out h.1)
in_lacks_end f k lo hi (Label _ ∷ xs) out h = absurd h.0
in_lacks_end f k lo hi (Open j ∷ xs) out h = absurd h.0
in_lacks_end f k lo hi (_ ∷ xs) out h = (refl, in_lacks_end f k lo hi xs out h.1)

in_lacks_start : (k lo hi : ℕ) (xs : List Item) → (k < lo) ⊎ (hi ≤ k) → AreIn lo hi xs → Lacks (is_start k) xs
in_lacks_start k lo hi [] out h = tt
in_lacks_start k lo hi (Start j ∷ xs) out h = (outside k j lo hi out h.0.0 h.0.1, in_lacks_start k lo hi xs out h.1)
in_lacks_start k lo hi (Open j ∷ xs) out h = absurd h.0
in_lacks_start k lo hi (_ ∷ xs) out h = (refl, in_lacks_start k lo hi xs out h.1)

-- the labels of a function are none of its statements
in_lacks_entry : (t : Target) (lo hi : ℕ) (xs : List Item) → AreIn lo hi xs → Lacks (is_label (Entry t)) xs
in_lacks_entry t lo hi [] h = tt
in_lacks_entry t lo hi (Label (Top g j) ∷ xs) h = (refl, in_lacks_entry t lo hi xs h.1)
in_lacks_entry t lo hi (Label (End g j) ∷ xs) h = (refl, in_lacks_entry t lo hi xs h.1)
in_lacks_entry t lo hi (Label _ ∷ xs) h = absurd h.0
in_lacks_entry t lo hi (Open j ∷ xs) h = absurd h.0
in_lacks_entry t lo hi (_ ∷ xs) h = (refl, in_lacks_entry t lo hi xs h.1)

in_lacks_close : (f lo hi : ℕ) (xs : List Item) → AreIn lo hi xs → Lacks (is_label (Close f)) xs
in_lacks_close f lo hi [] h = tt
in_lacks_close f lo hi (Label (Top g j) ∷ xs) h = (refl, in_lacks_close f lo hi xs h.1)
in_lacks_close f lo hi (Label (End g j) ∷ xs) h = (refl, in_lacks_close f lo hi xs h.1)
in_lacks_close f lo hi (Label _ ∷ xs) h = absurd h.0
in_lacks_close f lo hi (Open j ∷ xs) h = absurd h.0
in_lacks_close f lo hi (_ ∷ xs) h = (refl, in_lacks_close f lo hi xs h.1)

in_wider : (lo hi low high : ℕ) (xs : List Item) → low ≤ lo → hi ≤ high → AreIn lo hi xs → AreIn low high xs
in_wider lo hi low high [] a b h = tt
in_wider lo hi low high (Label (Top g j) ∷ xs) a b h = ((omega (arith, h.0.0), omega (arith, h.0.1)), in_wider lo hi low high xs a b h.1)
in_wider lo hi low high (Label (End g j) ∷ xs) a b h = ((omega (arith, h.0.0), omega (arith, h.0.1)), in_wider lo hi low high xs a b h.1)
in_wider lo hi low high (Label _ ∷ xs) a b h = absurd h.0
in_wider lo hi low high (Start j ∷ xs) a b h = ((omega (arith, h.0.0), omega (arith, h.0.1)), in_wider lo hi low high xs a b h.1)
in_wider lo hi low high (Open j ∷ xs) a b h = absurd h.0
in_wider lo hi low high (_ ∷ xs) a b h = (tt, in_wider lo hi low high xs a b h.1)

-- items of later statements leave earlier numbers free
later_free : (lo mid hi : ℕ) (xs : List Item) → AreIn mid hi xs → Free lo mid xs
later_free lo mid hi xs h =
    record {
      tops = λ f k low lt. in_lacks_top f k mid hi xs (inl lt) h;
      ends = λ f k low lt. in_lacks_end f k mid hi xs (inl lt) h;
      starts = λ k low lt. in_lacks_start k mid hi xs (inl lt) h;
    }

once_append : (lo hi : ℕ) (xs ys : List Item) → AreIn lo hi xs → Free lo hi ys → Once xs → Once ys → Once (xs ++ ys)
once_append lo hi [] ys h free a b = b
once_append lo hi (Label (Top g j) ∷ xs) ys h free a b = (lacks_append (is_label (Top g j)) xs ys a.0 (free.tops g j h.0.0 h.0.1), once_append lo hi xs ys h.1 free a.1 b)
once_append lo hi (Label (End g j) ∷ xs) ys h free a b = (lacks_append (is_label (End g j)) xs ys a.0 (free.ends g j h.0.0 h.0.1), once_append lo hi xs ys h.1 free a.1 b)
once_append lo hi (Label _ ∷ xs) ys h free a b = absurd h.0
once_append lo hi (Start j ∷ xs) ys h free a b = (lacks_append (is_start j) xs ys a.0 (free.starts j h.0.0 h.0.1), once_append lo hi xs ys h.1 free a.1 b)
once_append lo hi (Open j ∷ xs) ys h free a b = absurd h.0
once_append lo hi (Op i ∷ xs) ys h free a b = once_append lo hi xs ys h.1 free a b
once_append lo hi (Goto n ∷ xs) ys h free a b = once_append lo hi xs ys h.1 free a b
once_append lo hi (If c n ∷ xs) ys h free a b = once_append lo hi xs ys h.1 free a b
once_append lo hi (CallTo n ∷ xs) ys h free a b = once_append lo hi xs ys h.1 free a b

-- numbers of two lists of starts
numbered_both : (k : ℕ) (ss zs : List SourceStart) → IsNumbered k (ss ++ zs) → IsNumbered k ss × IsNumbered (k + length ss) zs
numbered_both k [] zs h = (tt, (let e : k ≡ k + 0 = omega arith in subst (λ j. IsNumbered j zs) e h))
numbered_both k (s ∷ ss) zs h =
    let r = numbered_both (suc k) ss zs h.1 in
    let e : suc k + length ss ≡ k + length (s ∷ ss) = omega arith in
    ((h.0, r.0), subst (λ j. IsNumbered j zs) e r.1)

below_operand : (q : ℕ) → 0 < q → IsOperand (below q)
below_operand q some = ((λ e. absurd (omega arith)), (omega arith, (λ e z. absurd (cc)), word_fits (4294967296 - q) (omega arith)))

move_bare : (way : Way) (q : ℕ) → 0 < q → IsBare (Op (Move way 0 (below q)))
move_bare ToOperand q some = ((omega arith, below_operand q some), omega arith)
move_bare ToRegister q some = ((omega arith, below_operand q some), omega arith)

put_bare : AreBare put_code
put_bare =
    ((omega arith, omega arith), (((omega arith, omega arith), omega arith), ((omega arith, omega arith), ((omega arith, omega arith), ((omega arith, omega arith), ((omega arith, omega arith), (((omega arith, omega arith), omega arith), ((tt, omega arith), (((omega arith, ((omega arith, omega arith, λ e. refl), (omega arith, (λ e z. absurd (cc)), word_fits 16 (omega arith)))), omega arith), (((omega arith, omega arith), omega arith), tt))))))))))

module _ (t : Site) (ints : AllInt (autos t.body.func)) where
  local_some : (i : ℕ) → i < length (autos t.body.func) → 0 < local_depth t i
  local_some i lt = let e = rounded_take (inside t) (autos t.body.func) i ints lt in omega arith

  temp_some : (d : ℕ) → 0 < temp_depth t d
  temp_some d = omega arith

  load_bare : (e : TExpr) → IsVariable e → AreThere (length (autos t.body.func)) e → AreBare (load_from (target_of t e))
  load_bare (name ty (Local i)) v there = (move_bare ToRegister (local_depth t i) (local_some i there), tt)
  load_bare _ v there = absurd v

  store_bare : (e : TExpr) → IsVariable e → AreThere (length (autos t.body.func)) e → AreBare (store_to (target_of t e))
  store_bare (name ty (Local i)) v there = (move_bare ToOperand (local_depth t i) (local_some i there), tt)
  store_bare _ v there = absurd v

  operator_bare : (op : TBinary) → IsSum op → AreBare (operator op)
  operator_bare Add sum = (((omega arith, omega arith), omega arith), tt)
  operator_bare Sub sum = (((omega arith, omega arith), omega arith), tt)
  operator_bare _ sum = absurd sum

  pick_bare : (b : Bool) (xs : List Item) → AreBare xs → AreBare (pick b xs [])
  pick_bare true xs h = h
  pick_bare false xs h = tt

  expr_bare : (e : TExpr) → IsSmall e → AreThere (length (autos t.body.func)) e → (d : ℕ) → AreBare (expr_code t e d)
  expr_bare (name ty (Local i)) small there d = load_bare (name ty (Local i)) small there
  expr_bare (int ty n) small there d = (((omega arith, omega arith), omega arith), tt)
  expr_bare (convert ty e) small there d = expr_bare e small.1 there d
  expr_bare (binary ty op a b) small there d =
      bare_append (expr_code t a d) _ (expr_bare a small.3 there.0 d) (
        move_bare ToOperand (temp_depth t d) (temp_some d),
        bare_append (expr_code t b (suc d)) _ (expr_bare b small.4 there.1 (suc d))
            (((omega arith, omega arith), omega arith), (move_bare ToRegister (temp_depth t d) (temp_some d), operator_bare op small.0)),
      )
  expr_bare (assign ty a b) small there d = bare_append (expr_code t b d) _ (expr_bare b small.1 there.1 d) (store_bare a small.0 there.0)
  expr_bare (call ty f (more_args e no_args)) small there d =
      pick_bare (is_putchar f) (expr_code t e d ++ put_code) (bare_append (expr_code t e d) put_code (expr_bare e small.2 there d) put_bare)
  expr_bare _ small there d = absurd small

-- items whose labels and starts are of numbers from lo to below hi, each once, and whose instructions have encodings
pub record IsSound (lo hi : ℕ) (xs : List Item) : Type 0 where
  pub inside : AreIn lo hi xs
  pub once : Once xs
  pub rows : AreEncoded xs

nothing_sound : (lo hi : ℕ) → IsSound lo hi []
nothing_sound lo hi = record { inside = tt; once = tt; rows = tt }

-- one part behind another
both_sound : (lo mid hi : ℕ) (xs ys : List Item) → lo ≤ mid → mid ≤ hi → IsSound lo mid xs → IsSound mid hi ys → IsSound lo hi (xs ++ ys)
both_sound lo mid hi xs ys a b h g =
    record {
      inside = in_append lo hi xs ys (in_wider lo mid lo hi xs (omega arith) b h.inside) (in_wider mid hi lo hi ys a (omega arith) g.inside);
      once = once_append lo mid xs ys h.inside (later_free lo mid hi ys g.inside) h.once g.once;
      rows = encoded_append xs ys h.rows g.rows;
    }

-- bare items before a part
bare_sound : (lo hi : ℕ) (xs ys : List Item) → AreBare xs → IsSound lo hi ys → IsSound lo hi (xs ++ ys)
bare_sound lo hi xs ys h g =
    record {
      inside = in_append lo hi xs ys (bare_in lo hi xs h) g.inside;
      once = bare_once xs ys h g.once;
      rows = encoded_append xs ys (bare_encoded xs h) g.rows;
    }

-- a start before a part of later numbers
start_sound : (k hi : ℕ) (xs : List Item) → suc k ≤ hi → IsSound (suc k) hi xs → IsSound k hi (Start k ∷ xs)
start_sound k hi xs le h =
    record {
      inside = ((omega arith, omega arith), in_wider (suc k) hi k hi xs (omega arith) (omega arith) h.inside);
      once = (in_lacks_start k (suc k) hi xs (inl (omega arith)) h.inside, h.once);
      rows = (tt, h.rows);
    }

-- the jumps and labels of a loop
end_sound : (f k hi : ℕ) → k < hi → IsSound k hi (again f k)
end_sound f k hi lt = record { inside = (tt, ((omega arith, lt), tt)); once = (tt, tt); rows = (tt, (tt, tt)) }

end_free : (f k hi : ℕ) → Free (suc k) hi (again f k)
end_free f k hi =
    record {
      tops = λ g j low lt. (refl, (refl, tt));
      ends = λ g j low lt. (refl, (other_label g f j k (other_number j k (inr low)), tt));
      starts = λ j low lt. (refl, (refl, tt));
    }

module _ (f k hi : ℕ) (test body : List Item) (le : suc k ≤ hi) (bare : AreBare test) (h : IsSound (suc k) hi body) where
  abbrev rest : List Item
  rest = test ++ (tested f k ++ (body ++ again f k))

  while_sound : IsSound k hi (Label (Top f k) ∷ Start k ∷ rest)
  while_sound =
      let end = end_sound f k hi (omega arith) in
      record {
        inside = ((omega arith, omega arith), ((omega arith, omega arith), in_append k hi test _ (bare_in k hi test bare) (tt, (tt, in_append k hi body (again f k) (in_wider (suc k) hi k hi body (omega arith) (omega arith) h.inside) end.inside))));
        once = (
          (refl, lacks_append (is_label (Top f k)) test _ (bare_lacks_label (Top f k) test bare) (refl, (refl, lacks_append (is_label (Top f k)) body (again f k) (in_lacks_top f k (suc k) hi body (inl (omega arith)) h.inside) (refl, (refl, tt))))),
          (
            lacks_append (is_start k) test _ (bare_lacks_start k test bare) (refl, (refl, lacks_append (is_start k) body (again f k) (in_lacks_start k (suc k) hi body (inl (omega arith)) h.inside) (refl, (refl, tt)))),
            bare_once test _ bare (once_append (suc k) hi body (again f k) h.inside (end_free f k hi) h.once end.once),
          ),
        );
        rows = (tt, (tt, encoded_append test _ (bare_encoded test bare) (((omega arith, omega arith), omega arith), (tt, encoded_append body (again f k) h.rows end.rows))));
      }

-- the jump of a return
return_sound : (f k hi : ℕ) (code : List Item) → suc k ≤ hi → AreBare code → IsSound k hi (Start k ∷ (code ++ (Goto (Close f) ∷ [])))
return_sound f k hi code le bare =
    start_sound k hi (code ++ (Goto (Close f) ∷ [])) le (bare_sound (suc k) hi code (Goto (Close f) ∷ []) bare (record { inside = (tt, tt); once = tt; rows = (tt, tt) }))

module _ (t : Site) (ints : AllInt (autos t.body.func)) where
  abbrev objects : ℕ
  objects = length (autos t.body.func)

  mutual
    stmt_sound : (s : TStmt) → IsFormStmt objects s → (k : ℕ) → IsNumbered k (starts_stmt s) → IsSound k (k + length (starts_stmt s)) (stmt_code t s)
    stmt_sound (expr j l e) form k num =
        let h = expr_bare t ints e form.small form.there 0 in
        let P : List Item → Type 0 = λ xs. IsSound k (k + 1) (Start k ∷ xs) in
        let r : IsSound k (k + 1) (Start k ∷ (expr_code t e 0 ++ [])) = start_sound k (k + 1) (expr_code t e 0 ++ []) (omega arith) (bare_sound (suc k) (k + 1) (expr_code t e 0) [] h (nothing_sound (suc k) (k + 1))) in
        subst (λ i. IsSound k (k + 1) (Start i ∷ expr_code t e 0)) (sym num.0) (subst P (append-nil (expr_code t e 0)) r)
    stmt_sound (while_ j l e s) form k num =
        let r = stmt_sound s form.1 (suc k) num.1 in
        let e1 : suc k + length (starts_stmt s) ≡ k + suc (length (starts_stmt s)) = omega arith in
        subst (λ i. IsSound k (k + suc (length (starts_stmt s))) (stmt_code t (while_ i l e s))) (sym num.0)
        (while_sound t.fun k (k + suc (length (starts_stmt s))) (expr_code t e 0) (stmt_code t s) (omega arith) (expr_bare t ints e form.0.small form.0.there 0) (subst (λ i. IsSound (suc k) i (stmt_code t s)) e1 r))
    stmt_sound (return_ j l (Some e)) form k num =
        subst (λ i. IsSound k (k + 1) (stmt_code t (return_ i l (Some e)))) (sym num.0) (return_sound t.fun k (k + 1) (expr_code t e 0) (omega arith) (expr_bare t ints e form.small form.there 0))
    stmt_sound (block line [] ss close_line) form k num = stmts_sound ss form k num
    stmt_sound _ form k num = absurd form

    stmts_sound : (ss : TStmts) → IsFormStmts objects ss → (k : ℕ) → IsNumbered k (starts_stmts ss) → IsSound k (k + length (starts_stmts ss)) (stmts_code t ss)
    stmts_sound no_stmts form k num = nothing_sound k (k + 0)
    stmts_sound (more_stmts s ss) form k num =
        let n = numbered_both k (starts_stmt s) (starts_stmts ss) num in
        let r = both_sound k (k + length (starts_stmt s)) (k + length (starts_stmt s) + length (starts_stmts ss)) (stmt_code t s) (stmts_code t ss) (omega arith) (omega arith) (stmt_sound s form.0 k n.0) (stmts_sound ss form.1 (k + length (starts_stmt s)) n.1) in
        let e : k + length (starts_stmt s) + length (starts_stmts ss) ≡ k + length (starts_stmt s ++ starts_stmts ss) = omega (arith, length-append (starts_stmt s) (starts_stmts ss)) in
        subst (λ hi. IsSound k hi (stmt_code t s ++ stmts_code t ss)) e r

zero_bare : (n : ℕ) → n < 4294967296 → AreBare (zero_code n n)
zero_bare zero lt = tt
zero_bare (suc n) lt =
    (((omega arith, below_operand (suc n) (omega arith)), omega arith), (((omega arith, lt), omega arith), (((omega arith, omega arith), omega arith), ((tt, omega arith), tt))))

closed_free : (f lo c : ℕ) → Free lo c (closed f c)
closed_free f lo c =
    record {
      tops = λ g j low lt. (refl, (refl, (refl, (refl, (refl, tt)))));
      ends = λ g j low lt. (refl, (refl, (refl, (refl, (refl, tt)))));
      starts = λ j low lt. (refl, (refl, (other_number j c (inl lt), (refl, (refl, tt)))));
    }

closed_encoded : (f c : ℕ) → AreEncoded (closed f c)
closed_encoded f c = (((omega arith, omega arith), omega arith), (tt, (tt, ((tt, omega arith), ((tt, omega arith), tt)))))

-- the code of a function, by the numbers of its starts
module _ (f o c frame : ℕ) (zeros body : List Item) (lt : o < c) (fits : frame < 4294967296) (bare : AreBare zeros) (h : IsSound (suc o) c body) where
  abbrev opened : List Item
  opened = Open o ∷ (body ++ closed f c)

  whole_function : Once (entered f frame ++ (zeros ++ opened))
  whole_function = (
    (
      refl,
      (
        refl,
        (
          refl,
          lacks_append (is_label (Entry (Body f))) zeros opened (bare_lacks_label (Entry (Body f)) zeros bare)
              (refl, lacks_append (is_label (Entry (Body f))) body (closed f c) (in_lacks_entry (Body f) (suc o) c body h.inside) (refl, (refl, (refl, (refl, (refl, tt)))))),
        ),
      ),
    ),
    bare_once zeros opened bare (
      lacks_append (is_start o) body (closed f c) (in_lacks_start o (suc o) c body (inl (omega arith)) h.inside) (refl, (refl, (other_number o c (inl lt), (refl, (refl, tt))))),
      once_append (suc o) c body (closed f c) h.inside (closed_free f (suc o) c) h.once ((refl, (refl, (refl, tt))), ((refl, (refl, tt)), tt)),
    ),
  )

  function_encoded : AreEncoded (entered f frame ++ (zeros ++ opened))
  function_encoded =
      (tt, ((omega arith, omega arith), (((omega arith, omega arith), omega arith), (((omega arith, fits), omega arith), encoded_append zeros opened (bare_encoded zeros bare) (tt, encoded_append body (closed f c) h.rows (closed_encoded f c))))))

-- declarators without initialisers have no starts
pub plain_starts : (ds : List Declarator) → AllPlain ds → flat_map starts_local ds ≡ []
plain_starts [] all = refl
plain_starts (auto d i ∷ ds) all = plain_starts ds all
plain_starts (_ ∷ ds) all = absurd all

module _ (w : Linked) (f : ℕ) (b : BodyAt) (is : IsFormMain b.func) where
  abbrev site : Site
  site = record { whole = w; fun = f; body = b }

  size_is : locals_size site ≡ 4 * length (autos b.func)
  size_is = rounded_ints (inside site) (autos b.func) is.ints

  numbers : IsNumbered (suc b.func.open_) (starts_stmts b.func.stmts) × IsNumbered (suc b.func.open_ + length (starts_stmts b.func.stmts)) (at b.func.close b.func.close_line ∷ [])
  numbers =
      let h : IsNumbered (suc b.func.open_) (starts_stmts b.func.stmts ++ at b.func.close b.func.close_line ∷ []) = subst (λ ss. IsNumbered (suc b.func.open_) (ss ++ (starts_stmts b.func.stmts ++ at b.func.close b.func.close_line ∷ []))) (plain_starts (locals b.func.locals) is.plain) is.numbered.1 in
      numbered_both (suc b.func.open_) (starts_stmts b.func.stmts) (at b.func.close b.func.close_line ∷ []) h

  body_sound : IsSound (suc b.func.open_) b.func.close (stmts_code site b.func.stmts)
  body_sound =
      subst (λ hi. IsSound (suc b.func.open_) hi (stmts_code site b.func.stmts)) (sym numbers.1.0) (stmts_sound site is.ints b.func.stmts is.small (suc b.func.open_) numbers.0)

  zeros_bare : AreBare (zero_code (locals_size site) (locals_size site))
  zeros_bare = let e = size_is in let few = is.few in zero_bare (locals_size site) (omega arith)

  frame_fits : frame_of (inside site) b.func < 4294967296
  frame_fits = let e = size_is in let few = is.few in omega arith

  close_later : b.func.open_ < b.func.close
  close_later = let e = numbers.1.0 in omega arith

  pub whole_once : Once (whole_code w f b)
  whole_once = whole_function f b.func.open_ b.func.close (frame_of (inside site) b.func) (zero_code (locals_size site) (locals_size site)) (stmts_code site b.func.stmts) close_later frame_fits zeros_bare body_sound

  pub whole_encoded : AreEncoded (whole_code w f b)
  whole_encoded = (
    tt,
    (
      (omega arith, omega arith),
      (
        (omega arith, omega arith),
        (
          ((omega arith, omega arith), omega arith),
          (
            (tt, omega arith),
            function_encoded f b.func.open_ b.func.close (frame_of (inside site) b.func) (zero_code (locals_size site) (locals_size site)) (stmts_code site b.func.stmts) close_later frame_fits zeros_bare body_sound,
          ),
        ),
      ),
    ),
  )
