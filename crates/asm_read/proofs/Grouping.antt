-- The line of a group is read as this group.
use Rattle.std.proofs.Common.{◌≡◌, ℕ, zero, suc, ◌+◌, ◌<◌, ◌≤◌, List, [], ◌∷◌, ◌++◌, length, Bool, true, false, cond, Option, Some, None, Ok, refl, sym, ap, ◌∙◌, arith, append_assoc, ℤ, pos, negsuc}
use Rattle.std.specs.Prelude.{nat_eq, nat_le, ◌&&◌, codes}
use Rattle.std.specs.List.{list_all, slice_split, flat_map}
use Rattle.std.specs.Option.{option_map}
use Rattle.std.proofs.lemmas.Bool.{eqb-true, and_from}
use Rattle.std.proofs.lemmas.Bool.Decides.{nat_tests}
use Rattle.std.proofs.lemmas.List.{append-nil}
use Rattle.asm_item.specs.declared.model.Val.{Val}
use Rattle.asm_item.specs.declared.model.Val.TheVariants as values
use Rattle.asm_item.specs.declared.model.DefGroup.{DefGroup}
use Rattle.asm_item.specs.declared.model.Item.{Item}
use Rattle.asm_item.specs.declared.model.Item.TheVariants as items
use Rattle.asm_item.specs.declared.words.Keyword.TheVariants as words
use Rattle.asm_item.specs.Args.{plain, number, name, unsigned}
use Rattle.asm_item.specs.Statements.{Statement, bare, with_one, statement_text}
use Rattle.asm_item.specs.Groups.{Part, val, scl, ty, tag, line, size, dims, value_argument, numbers, part_statement, val_parts, scl_parts, number_parts, tag_parts, unless_last_zero, significant, dims_parts, parts_of, further_statement, parts_text}
use Rattle.asm_item.specs.Normal.{is_name, is_half, is_signed, is_value, is_tag, is_group, are_dimensions}
use Rattle.asm_read.specs.declared.token.Sign.TheVariants as signs
use Rattle.asm_read.specs.Tokens.{Tok, Mark, goes_on}
use Rattle.asm_read.specs.Lex.{lex}
use Rattle.asm_read.specs.Numerals.{◌>>=◌}
use Rattle.asm_read.specs.Stmts as s
use Rattle.asm_read.specs.Stmts.{Stmt, item, begin, part, end, make, each_half, stmts_at, stmts_of, is_semicolon}
use Rattle.asm_read.specs.Reading.{At, at_line, rank, empty_group, with_part, State, goes, steps}
use Rattle.asm_read.proofs.Joined.{and_left, and_right}
use Rattle.asm_read.proofs.Printed.{clean, AreArguments, statement_then, lex_statement}
use Rattle.asm_read.proofs.Inverse.{below, full_unsigned, signed_again}
use Rattle.asm_read.proofs.Spelled.{signed_size}
use Rattle.asm_read.proofs.LineEnds.{statement_clean, clean_more}
use Rattle.asm_read.proofs.Items.{stated, cut_statement, number_fits}

-- ---- parts

abbrev pub IsPart : Part → Type 0
IsPart (val v) = is_value v ≡ true
IsPart (scl z) = is_signed z ≡ true
IsPart (ty n) = is_half n ≡ true
IsPart (tag k) = is_name k ≡ true
IsPart (line n) = is_half n ≡ true
IsPart (size n) = is_half n ≡ true
IsPart (dims ns) = (list_all is_half ns ≡ true) × (0 < length ns) × (length ns ≤ 4)

abbrev pub AreParts : List Part → Type 0
AreParts [] = Unit {0}
AreParts (p ∷ ps) = IsPart p × AreParts ps

value_spelled : (v : Val) → is_value v ≡ true → AreArguments (value_argument v ∷ [])
value_spelled (values.Number n) h = (below n 4294967296 h, tt)
value_spelled (values.Label k) h = (h, tt)
value_spelled values.Here h = (tt, tt)

halves_spelled : (ns : List ℕ) → list_all is_half ns ≡ true → AreArguments (numbers ns)
halves_spelled [] h = tt
halves_spelled (n ∷ ns) h = (number_fits n 65536 (and_left (is_half n) (list_all is_half ns) h) (omega arith), halves_spelled ns (and_right (is_half n) (list_all is_half ns) h))

part_spelled : (p : Part) → IsPart p → AreArguments (part_statement p).args
part_spelled (val v) h = value_spelled v h
part_spelled (scl z) h = (signed_size z h, tt)
part_spelled (ty n) h = (number_fits n 65536 h (omega arith), tt)
part_spelled (tag k) h = (h, tt)
part_spelled (line n) h = (number_fits n 65536 h (omega arith), tt)
part_spelled (size n) h = (number_fits n 65536 h (omega arith), tt)
part_spelled (dims ns) h = halves_spelled ns h.0

half_again : (n : ℕ) → is_half n ≡ true → s.half (plain (number (unsigned n))) ≡ Some n
half_again n h = ap (λ b. cond b (Some n) None) h

halves_again : (ns : List ℕ) → list_all is_half ns ≡ true → each_half (numbers ns) ≡ Some ns
halves_again [] h = refl
halves_again (n ∷ ns) h =
    ap (λ o. o >>= λ n. each_half (numbers ns) >>= λ ms. Some (n ∷ ms)) (half_again n (and_left (is_half n) (list_all is_half ns) h))
    ∙ ap (λ o. o >>= λ ms. Some (n ∷ ms)) (halves_again ns (and_right (is_half n) (list_all is_half ns) h))

dims_made : (ns : List ℕ) → list_all is_half ns ≡ true → 0 < length ns → length ns ≤ 4 → make words.Dim (numbers ns) ≡ Some (part (dims ns))
dims_made [] h lt le = absurd (omega arith)
dims_made (a ∷ []) h lt le = ap (λ o. s.one_part (option_map (λ ns. dims ns) o)) (halves_again (a ∷ []) h)
dims_made (a ∷ (b ∷ [])) h lt le = ap (λ o. s.one_part (option_map (λ ns. dims ns) o)) (halves_again (a ∷ (b ∷ [])) h)
dims_made (a ∷ (b ∷ (c ∷ []))) h lt le = ap (λ o. s.one_part (option_map (λ ns. dims ns) o)) (halves_again (a ∷ (b ∷ (c ∷ []))) h)
dims_made (a ∷ (b ∷ (c ∷ (d ∷ [])))) h lt le = ap (λ o. s.one_part (option_map (λ ns. dims ns) o)) (halves_again (a ∷ (b ∷ (c ∷ (d ∷ [])))) h)
dims_made (a ∷ (b ∷ (c ∷ (d ∷ (e ∷ ns))))) h lt le = absurd (omega arith)

value_made : (v : Val) → is_value v ≡ true → s.value (value_argument v) ≡ Some v
value_made (values.Number n) h = ap (option_map (λ x. values.Number x)) (full_unsigned n h)
value_made (values.Label k) h = refl
value_made values.Here h = refl

part_made : (p : Part) → IsPart p → make (part_statement p).word (part_statement p).args ≡ Some (part p)
part_made (val v) h = ap (λ o. s.one_part (option_map (λ v. val v) o)) (value_made v h)
part_made (scl z) h = ap (λ o. s.one_part (option_map (λ z. scl z) o)) (signed_again z h)
part_made (ty n) h = ap (λ o. s.one_part (option_map (λ n. ty n) o)) (half_again n h)
part_made (tag k) h = refl
part_made (line n) h = ap (λ o. s.one_part (option_map (λ n. line n) o)) (half_again n h)
part_made (size n) h = ap (λ o. s.one_part (option_map (λ n. size n) o)) (half_again n h)
part_made (dims ns) h = dims_made ns h.0 h.1 h.2

-- ---- the line

abbrev pub last : Statement
last = bare words.Endef

abbrev pub parts_then : List Part → List Tok → List Tok
parts_then [] ts = ts
parts_then (p ∷ ps) ts = Mark signs.Semicolon ∷ statement_then (part_statement p) (parts_then ps ts)

stops : (ps : List Part) → goes_on (parts_text ps ++ codes "; .endef") ≡ false
stops [] = refl
stops (p ∷ ps) = refl

lex_parts : (ps : List Part) → AreParts ps → lex (parts_text ps ++ codes "; .endef") ≡ parts_then ps (Mark signs.Semicolon ∷ statement_then last [])
lex_parts [] h = refl
lex_parts (p ∷ ps) h =
    ap (λ x. lex (59 ∷ (32 ∷ x))) (append_assoc (statement_text (part_statement p)) (parts_text ps) (codes "; .endef"))
    ∙ ap (λ ts. Mark signs.Semicolon ∷ ts) (lex_statement (part_statement p) (parts_text ps ++ codes "; .endef") (part_spelled p h.0) (stops ps) ∙ ap (statement_then (part_statement p)) (lex_parts ps h.1))

abbrev pub apart : List Part → List (List Tok)
apart [] = statement_then last [] ∷ []
apart (p ∷ ps) = statement_then (part_statement p) [] ∷ apart ps

cut_parts : (st : Statement) (ps : List Part) → slice_split is_semicolon (statement_then st (parts_then ps (Mark signs.Semicolon ∷ statement_then last []))) ≡ statement_then st [] ∷ apart ps
cut_parts st [] = cut_statement st (Mark signs.Semicolon ∷ statement_then last []) [] (statement_then last [] ∷ []) (ap (λ x. [] ∷ x) (cut_statement last [] [] [] refl))
cut_parts st (p ∷ ps) =
    cut_statement st (Mark signs.Semicolon ∷ statement_then (part_statement p) (parts_then ps (Mark signs.Semicolon ∷ statement_then last []))) [] (apart (p ∷ ps)) (ap (λ x. [] ∷ x) (cut_parts (part_statement p) ps))

-- the statements behind `.def`
abbrev pub rest_of : List Part → List Stmt
rest_of [] = end ∷ []
rest_of (p ∷ ps) = part p ∷ rest_of ps

flat_parts : (ps : List Part) → AreParts ps → flat_map stmts_at (apart ps) ≡ rest_of ps
flat_parts [] h = ap (λ x. x ++ []) (stated last end tt refl)
flat_parts (p ∷ ps) h = ap (λ x. x ++ flat_map stmts_at (apart ps)) (stated (part_statement p) (part p) (part_spelled p h.0) (part_made p h.0)) ∙ ap (λ x. part p ∷ x) (flat_parts ps h.1)

abbrev pub first_of : List ℕ → Statement
first_of k = with_one words.Def (plain (name k))

pub group_line : (k : List ℕ) (ps : List Part) → is_name k ≡ true → AreParts ps → stmts_of (lex (9 ∷ (statement_text (first_of k) ++ (parts_text ps ++ codes "; .endef")))) ≡ begin k ∷ rest_of ps
group_line k ps h parts =
    ap stmts_of (lex_statement (first_of k) (parts_text ps ++ codes "; .endef") (h, tt) (stops ps) ∙ ap (statement_then (first_of k)) (lex_parts ps parts))
    ∙ ap (flat_map stmts_at) (cut_parts (first_of k) ps)
    ∙ ap (λ x. x ++ flat_map stmts_at (apart ps)) (stated (first_of k) (begin k) (h, tt) refl)
    ∙ ap (λ x. begin k ∷ x) (flat_parts ps parts)

pub parts_clean : (ps : List Part) → AreParts ps → clean (parts_text ps) ≡ true
parts_clean [] h = refl
parts_clean (p ∷ ps) h = clean_more (further_statement (part_statement p)) (parts_text ps) (statement_clean (part_statement p) (part_spelled p h.0)) (parts_clean ps h.1)

-- ---- the parts of a group

parts_both : (ps qs : List Part) → AreParts ps → AreParts qs → AreParts (ps ++ qs)
parts_both [] qs g h = h
parts_both (p ∷ ps) qs g h = (g.0, parts_both ps qs g.1 h)

val_fit : (v : Val) → is_value v ≡ true → AreParts (val_parts v)
val_fit (values.Number zero) h = tt
val_fit (values.Number (suc n)) h = (h, tt)
val_fit (values.Label k) h = (h, tt)
val_fit values.Here h = (h, tt)

scl_fit : (z : ℤ) → is_signed z ≡ true → AreParts (scl_parts z)
scl_fit (pos zero) h = tt
scl_fit (pos (suc n)) h = (h, tt)
scl_fit (negsuc n) h = (h, tt)

ty_fit : (n : ℕ) → is_half n ≡ true → AreParts (number_parts ty n)
ty_fit zero h = tt
ty_fit (suc n) h = (h, tt)

line_fit : (n : ℕ) → is_half n ≡ true → AreParts (number_parts line n)
line_fit zero h = tt
line_fit (suc n) h = (h, tt)

size_fit : (n : ℕ) → is_half n ≡ true → AreParts (number_parts size n)
size_fit zero h = tt
size_fit (suc n) h = (h, tt)

tag_fit : (t : Option (List ℕ)) → is_tag t ≡ true → AreParts (tag_parts t)
tag_fit None h = tt
tag_fit (Some k) h = (h, tt)

last_half : (d : ℕ) (ds : List ℕ) → is_half d ≡ true → list_all is_half ds ≡ true → list_all is_half (unless_last_zero d ds) ≡ true
last_half zero [] g h = refl
last_half (suc d) [] g h = and_from (is_half (suc d)) true g refl
last_half zero (e ∷ ds) g h = h
last_half (suc d) (e ∷ ds) g h = and_from (is_half (suc d)) (list_all is_half (e ∷ ds)) g h

last_length : (d : ℕ) (ds : List ℕ) → length (unless_last_zero d ds) ≤ suc (length ds)
last_length zero [] = omega arith
last_length (suc d) [] = omega arith
last_length zero (e ∷ ds) = omega arith
last_length (suc d) (e ∷ ds) = omega arith

kept_halves : (ds : List ℕ) → list_all is_half ds ≡ true → list_all is_half (significant ds) ≡ true
kept_halves [] h = refl
kept_halves (d ∷ ds) h = last_half d (significant ds) (and_left (is_half d) (list_all is_half ds) h) (kept_halves ds (and_right (is_half d) (list_all is_half ds) h))

kept_length : (ds : List ℕ) → length (significant ds) ≤ length ds
kept_length [] = omega arith
kept_length (d ∷ ds) = let a = last_length d (significant ds) in let b = kept_length ds in omega (arith, a, b)

dims_fit_by : (ns : List ℕ) → list_all is_half ns ≡ true → length ns ≤ 4 → AreParts (dims_parts ns)
dims_fit_by [] h le = tt
dims_fit_by (n ∷ ns) h le = ((h, omega arith, le), tt)

dims_fit : (ds : List ℕ) → are_dimensions ds ≡ true → AreParts (dims_parts (significant ds))
dims_fit ds h =
    let four1 = eqb-true (length ds) 4 (and_left (nat_eq (length ds) 4) (list_all is_half ds) h) in
    let le = kept_length ds in
    dims_fit_by (significant ds) (kept_halves ds (and_right (nat_eq (length ds) 4) (list_all is_half ds) h)) (omega (arith, four1, le))

-- the fields of a normal group
pub record Fields (g : DefGroup) : Type 0 where
  pub name : is_name g.name ≡ true
  pub val : is_value g.val ≡ true
  pub scl : is_signed g.scl ≡ true
  pub ty : is_half g.ty ≡ true
  pub tag : is_tag g.tag ≡ true
  pub line : is_half g.line ≡ true
  pub size : is_half g.size ≡ true
  pub dims : are_dimensions g.dims ≡ true

pub fields_of : (g : DefGroup) → is_group g ≡ true → Fields g
fields_of g h7 =
    let b1 = is_name g.name in
    let b2 = is_name g.name && is_value g.val in
    let b3 = is_name g.name && is_value g.val && is_signed g.scl in
    let b4 = is_name g.name && is_value g.val && is_signed g.scl && is_half g.ty in
    let b5 = is_name g.name && is_value g.val && is_signed g.scl && is_half g.ty && is_tag g.tag in
    let b6 = is_name g.name && is_value g.val && is_signed g.scl && is_half g.ty && is_tag g.tag && is_half g.line in
    let b7 = is_name g.name && is_value g.val && is_signed g.scl && is_half g.ty && is_tag g.tag && is_half g.line && is_half g.size in
    let h6 = and_left b7 (are_dimensions g.dims) h7 in
    let h5 = and_left b6 (is_half g.size) h6 in
    let h4 = and_left b5 (is_half g.line) h5 in
    let h3 = and_left b4 (is_tag g.tag) h4 in
    let h2 = and_left b3 (is_half g.ty) h3 in
    let h1 = and_left b2 (is_signed g.scl) h2 in
    record {
      name = and_left b1 (is_value g.val) h1;
      val = and_right b1 (is_value g.val) h1;
      scl = and_right b2 (is_signed g.scl) h2;
      ty = and_right b3 (is_half g.ty) h3;
      tag = and_right b4 (is_tag g.tag) h4;
      line = and_right b5 (is_half g.line) h5;
      size = and_right b6 (is_half g.size) h6;
      dims = and_right b7 (are_dimensions g.dims) h7;
    }

pub parts_fit : (g : DefGroup) → Fields g → AreParts (parts_of g)
parts_fit g f =
    parts_both (val_parts g.val) _ (val_fit g.val f.val) (parts_both (scl_parts g.scl) _ (scl_fit g.scl f.scl) (parts_both (number_parts ty g.ty) _ (ty_fit g.ty f.ty) (parts_both (tag_parts g.tag) _ (tag_fit g.tag f.tag) (parts_both (number_parts line g.line) _ (line_fit g.line f.line) (parts_both (number_parts size g.size) _ (size_fit g.size f.size) (dims_fit g.dims f.dims))))))

-- ---- going through the parts

abbrev pub within : List Item → Bool → ℕ → DefGroup → ℕ → State
within done f n h m = record { done = done; group = Some record { line = n; group = h; next = m }; filed = f }

nat_le_true : (m k : ℕ) → m ≤ k → nat_le m k ≡ true
nat_le_true m k h = grind (arith, nat_tests)

one_step : (done : List Item) (f : Bool) (n : ℕ) (h : DefGroup) (m : ℕ) (p : Part) (rest : List At) → m ≤ rank p → steps (within done f n h m) (record { line = n; stmt = part p } ∷ rest) ≡ steps (within done f n (with_part h p) (rank p + 1)) rest
one_step done f n h m p rest le =
    ap (λ b. goes n (cond b (Some (within done f n (with_part h p) (rank p + 1))) None) (λ t. steps t rest)) (nat_le_true m (rank p) le)

-- from a group h, over the parts ps, to a group g
abbrev pub Reaches : List Item → Bool → ℕ → DefGroup → ℕ → List Part → DefGroup → ℕ → List Part → Type 0
Reaches done f n h m ps g k more = (m1 : ℕ) × (m1 ≤ k) × (steps (within done f n h m) (at_line n (rest_of (ps ++ more))) ≡ steps (within done f n g m1) (at_line n (rest_of more)))

val_reach : (done : List Item) (f : Bool) (n : ℕ) (h : DefGroup) (m : ℕ) (v : Val) (more : List Part) → m ≤ 0 → h.val ≡ values.Number 0 → Reaches done f n h m (val_parts v) (record h { val = v }) 1 more
val_reach done f n h m (values.Number zero) more le e = (m, omega arith, ap (λ v. steps (within done f n (record h { val = v }) m) (at_line n (rest_of more))) e)
val_reach done f n h m (values.Number (suc k)) more le e = (1, omega arith, one_step done f n h m (val (values.Number (suc k))) (at_line n (rest_of more)) le)
val_reach done f n h m (values.Label k) more le e = (1, omega arith, one_step done f n h m (val (values.Label k)) (at_line n (rest_of more)) le)
val_reach done f n h m values.Here more le e = (1, omega arith, one_step done f n h m (val values.Here) (at_line n (rest_of more)) le)

scl_reach : (done : List Item) (f : Bool) (n : ℕ) (h : DefGroup) (m : ℕ) (z : ℤ) (more : List Part) → m ≤ 1 → h.scl ≡ pos 0 → Reaches done f n h m (scl_parts z) (record h { scl = z }) 2 more
scl_reach done f n h m (pos zero) more le e = (m, omega arith, ap (λ v. steps (within done f n (record h { scl = v }) m) (at_line n (rest_of more))) e)
scl_reach done f n h m (pos (suc k)) more le e = (2, omega arith, one_step done f n h m (scl (pos (suc k))) (at_line n (rest_of more)) le)
scl_reach done f n h m (negsuc k) more le e = (2, omega arith, one_step done f n h m (scl (negsuc k)) (at_line n (rest_of more)) le)

ty_reach : (done : List Item) (f : Bool) (n : ℕ) (h : DefGroup) (m : ℕ) (x : ℕ) (more : List Part) → m ≤ 2 → h.ty ≡ 0 → Reaches done f n h m (number_parts ty x) (record h { ty = x }) 3 more
ty_reach done f n h m zero more le e = (m, omega arith, ap (λ v. steps (within done f n (record h { ty = v }) m) (at_line n (rest_of more))) e)
ty_reach done f n h m (suc k) more le e = (3, omega arith, one_step done f n h m (ty (suc k)) (at_line n (rest_of more)) le)

tag_reach : (done : List Item) (f : Bool) (n : ℕ) (h : DefGroup) (m : ℕ) (t : Option (List ℕ)) (more : List Part) → m ≤ 3 → h.tag ≡ None → Reaches done f n h m (tag_parts t) (record h { tag = t }) 4 more
tag_reach done f n h m None more le e = (m, omega arith, ap (λ v. steps (within done f n (record h { tag = v }) m) (at_line n (rest_of more))) e)
tag_reach done f n h m (Some k) more le e = (4, omega arith, one_step done f n h m (tag k) (at_line n (rest_of more)) le)

line_reach : (done : List Item) (f : Bool) (n : ℕ) (h : DefGroup) (m : ℕ) (x : ℕ) (more : List Part) → m ≤ 4 → h.line ≡ 0 → Reaches done f n h m (number_parts line x) (record h { line = x }) 5 more
line_reach done f n h m zero more le e = (m, omega arith, ap (λ v. steps (within done f n (record h { line = v }) m) (at_line n (rest_of more))) e)
line_reach done f n h m (suc k) more le e = (5, omega arith, one_step done f n h m (line (suc k)) (at_line n (rest_of more)) le)

size_reach : (done : List Item) (f : Bool) (n : ℕ) (h : DefGroup) (m : ℕ) (x : ℕ) (more : List Part) → m ≤ 5 → h.size ≡ 0 → Reaches done f n h m (number_parts size x) (record h { size = x }) 6 more
size_reach done f n h m zero more le e = (m, omega arith, ap (λ v. steps (within done f n (record h { size = v }) m) (at_line n (rest_of more))) e)
size_reach done f n h m (suc k) more le e = (6, omega arith, one_step done f n h m (size (suc k)) (at_line n (rest_of more)) le)

-- four dimensions, of which those up to the last that isn't 0 are printed
dims_reach : (done : List Item) (f : Bool) (n : ℕ) (h : DefGroup) (m : ℕ) (ds : List ℕ) (more : List Part) → length ds ≡ 4 → m ≤ 6 → h.dims ≡ (0 ∷ (0 ∷ (0 ∷ (0 ∷ [])))) → Reaches done f n h m (dims_parts (significant ds)) (record h { dims = ds }) 7 more
dims_reach done f n h m [] more len le e = absurd (omega arith)
dims_reach done f n h m (a ∷ []) more len le e = absurd (omega arith)
dims_reach done f n h m (a ∷ (b ∷ [])) more len le e = absurd (omega arith)
dims_reach done f n h m (a ∷ (b ∷ (c ∷ []))) more len le e = absurd (omega arith)
dims_reach done f n h m (zero ∷ (zero ∷ (zero ∷ (zero ∷ [])))) more len le e = (m, omega arith, ap (λ v. steps (within done f n (record h { dims = v }) m) (at_line n (rest_of more))) e)
dims_reach done f n h m (zero ∷ (zero ∷ (zero ∷ ((suc d) ∷ [])))) more len le e = (7, omega arith, one_step done f n h m (dims (0 ∷ (0 ∷ (0 ∷ (suc d ∷ []))))) (at_line n (rest_of more)) le)
dims_reach done f n h m (zero ∷ (zero ∷ ((suc c) ∷ (zero ∷ [])))) more len le e = (7, omega arith, one_step done f n h m (dims (0 ∷ (0 ∷ (suc c ∷ [])))) (at_line n (rest_of more)) le)
dims_reach done f n h m (zero ∷ (zero ∷ ((suc c) ∷ ((suc d) ∷ [])))) more len le e = (7, omega arith, one_step done f n h m (dims (0 ∷ (0 ∷ (suc c ∷ (suc d ∷ []))))) (at_line n (rest_of more)) le)
dims_reach done f n h m (zero ∷ ((suc b) ∷ (zero ∷ (zero ∷ [])))) more len le e = (7, omega arith, one_step done f n h m (dims (0 ∷ (suc b ∷ []))) (at_line n (rest_of more)) le)
dims_reach done f n h m (zero ∷ ((suc b) ∷ (zero ∷ ((suc d) ∷ [])))) more len le e = (7, omega arith, one_step done f n h m (dims (0 ∷ (suc b ∷ (0 ∷ (suc d ∷ []))))) (at_line n (rest_of more)) le)
dims_reach done f n h m (zero ∷ ((suc b) ∷ ((suc c) ∷ (zero ∷ [])))) more len le e = (7, omega arith, one_step done f n h m (dims (0 ∷ (suc b ∷ (suc c ∷ [])))) (at_line n (rest_of more)) le)
dims_reach done f n h m (zero ∷ ((suc b) ∷ ((suc c) ∷ ((suc d) ∷ [])))) more len le e = (7, omega arith, one_step done f n h m (dims (0 ∷ (suc b ∷ (suc c ∷ (suc d ∷ []))))) (at_line n (rest_of more)) le)
dims_reach done f n h m ((suc a) ∷ (zero ∷ (zero ∷ (zero ∷ [])))) more len le e = (7, omega arith, one_step done f n h m (dims (suc a ∷ [])) (at_line n (rest_of more)) le)
dims_reach done f n h m ((suc a) ∷ (zero ∷ (zero ∷ ((suc d) ∷ [])))) more len le e = (7, omega arith, one_step done f n h m (dims (suc a ∷ (0 ∷ (0 ∷ (suc d ∷ []))))) (at_line n (rest_of more)) le)
dims_reach done f n h m ((suc a) ∷ (zero ∷ ((suc c) ∷ (zero ∷ [])))) more len le e = (7, omega arith, one_step done f n h m (dims (suc a ∷ (0 ∷ (suc c ∷ [])))) (at_line n (rest_of more)) le)
dims_reach done f n h m ((suc a) ∷ (zero ∷ ((suc c) ∷ ((suc d) ∷ [])))) more len le e = (7, omega arith, one_step done f n h m (dims (suc a ∷ (0 ∷ (suc c ∷ (suc d ∷ []))))) (at_line n (rest_of more)) le)
dims_reach done f n h m ((suc a) ∷ ((suc b) ∷ (zero ∷ (zero ∷ [])))) more len le e = (7, omega arith, one_step done f n h m (dims (suc a ∷ (suc b ∷ []))) (at_line n (rest_of more)) le)
dims_reach done f n h m ((suc a) ∷ ((suc b) ∷ (zero ∷ ((suc d) ∷ [])))) more len le e = (7, omega arith, one_step done f n h m (dims (suc a ∷ (suc b ∷ (0 ∷ (suc d ∷ []))))) (at_line n (rest_of more)) le)
dims_reach done f n h m ((suc a) ∷ ((suc b) ∷ ((suc c) ∷ (zero ∷ [])))) more len le e = (7, omega arith, one_step done f n h m (dims (suc a ∷ (suc b ∷ (suc c ∷ [])))) (at_line n (rest_of more)) le)
dims_reach done f n h m ((suc a) ∷ ((suc b) ∷ ((suc c) ∷ ((suc d) ∷ [])))) more len le e = (7, omega arith, one_step done f n h m (dims (suc a ∷ (suc b ∷ (suc c ∷ (suc d ∷ []))))) (at_line n (rest_of more)) le)
dims_reach done f n h m (a ∷ (b ∷ (c ∷ (d ∷ (x ∷ ds))))) more len le e = absurd (omega arith)

-- over all parts and `.endef`
pub group_steps : (done : List Item) (f : Bool) (n : ℕ) (g : DefGroup) → are_dimensions g.dims ≡ true
    → steps record { done = done; group = None; filed = f } (at_line n (begin g.name ∷ rest_of (parts_of g))) ≡ Ok record { done = done ++ (items.Def g ∷ []); group = None; filed = f }
group_steps done f n g four1 =
    let len = eqb-true (length g.dims) 4 (and_left (nat_eq (length g.dims) 4) (list_all is_half g.dims) four1) in
    let h0 = empty_group g.name in
    let h1 : DefGroup = record h0 { val = g.val } in
    let h2 : DefGroup = record h1 { scl = g.scl } in
    let h3 : DefGroup = record h2 { ty = g.ty } in
    let h4 : DefGroup = record h3 { tag = g.tag } in
    let h5 : DefGroup = record h4 { line = g.line } in
    let h6 : DefGroup = record h5 { size = g.size } in
    let r1 = val_reach done f n h0 0 g.val _ (omega arith) refl in
    let r2 = scl_reach done f n h1 r1.0 g.scl _ r1.1 refl in
    let r3 = ty_reach done f n h2 r2.0 g.ty _ r2.1 refl in
    let r4 = tag_reach done f n h3 r3.0 g.tag _ r3.1 refl in
    let r5 = line_reach done f n h4 r4.0 g.line _ r4.1 refl in
    let r6 = size_reach done f n h5 r5.0 g.size _ r5.1 refl in
    let r7 = dims_reach done f n h6 r6.0 g.dims [] len r6.1 refl in
    r1.2 ∙ r2.2 ∙ r3.2 ∙ r4.2 ∙ r5.2 ∙ r6.2 ∙ ap (λ ps. steps (within done f n h6 r6.0) (at_line n (rest_of ps))) (sym (append-nil (dims_parts (significant g.dims)))) ∙ r7.2
