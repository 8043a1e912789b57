-- The parts of a group, in their order, without those that are 0 or None.
use Rattle.std.specs.Prelude.{ℕ, zero, suc, List, [], ◌∷◌, ◌++◌, map, codes, ℤ, pos, negsuc, Option, Some, None}
use Rattle.asm_item.specs.declared.model.Val.{Val}
use Rattle.asm_item.specs.declared.model.Val.TheVariants as values
use Rattle.asm_item.specs.declared.model.DefGroup.{DefGroup}
use Rattle.asm_item.specs.declared.words.Keyword.TheVariants as words
use Rattle.asm_item.specs.Args.{Argument, plain, number, name, here, unsigned, signed}
use Rattle.asm_item.specs.Statements.{Statement, with_one, statement_text}

pub data Part : Type 0 where
  val : (v : Val) → Part
  scl : (z : ℤ) → Part
  ty : (n : ℕ) → Part
  tag : (k : List ℕ) → Part
  line : (n : ℕ) → Part
  size : (n : ℕ) → Part
  dims : (ns : List ℕ) → Part

abbrev pub value_argument : Val → Argument
value_argument (values.Number n) = plain (number (unsigned n))
value_argument (values.Label k) = plain (name k)
value_argument values.Here = here

abbrev pub numbers : List ℕ → List Argument
numbers ns = map (λ n. plain (number (unsigned n))) ns

abbrev pub part_statement : Part → Statement
part_statement (val v) = with_one words.Val (value_argument v)
part_statement (scl z) = with_one words.Scl (plain (number (signed z)))
part_statement (ty n) = with_one words.Ty (plain (number (unsigned n)))
part_statement (tag k) = with_one words.Tag (plain (name k))
part_statement (line n) = with_one words.Line (plain (number (unsigned n)))
part_statement (size n) = with_one words.Size (plain (number (unsigned n)))
part_statement (dims ns) = record { word = words.Dim; args = numbers ns }

abbrev pub val_parts : Val → List Part
val_parts (values.Number zero) = []
val_parts (values.Number (suc n)) = val (values.Number (suc n)) ∷ []
val_parts (values.Label k) = val (values.Label k) ∷ []
val_parts values.Here = val values.Here ∷ []

abbrev pub scl_parts : ℤ → List Part
scl_parts (pos zero) = []
scl_parts (pos (suc n)) = scl (pos (suc n)) ∷ []
scl_parts (negsuc n) = scl (negsuc n) ∷ []

abbrev pub number_parts : (ℕ → Part) → ℕ → List Part
number_parts f zero = []
number_parts f (suc n) = f (suc n) ∷ []

abbrev pub tag_parts : Option (List ℕ) → List Part
tag_parts None = []
tag_parts (Some k) = tag k ∷ []

abbrev pub unless_last_zero : ℕ → List ℕ → List ℕ
unless_last_zero zero [] = []
unless_last_zero (suc d) [] = suc d ∷ []
unless_last_zero d (e ∷ ds) = d ∷ (e ∷ ds)

-- the dimensions up to the last that isn't 0
abbrev pub significant : List ℕ → List ℕ
significant [] = []
significant (d ∷ ds) = unless_last_zero d (significant ds)

abbrev pub dims_parts : List ℕ → List Part
dims_parts [] = []
dims_parts (d ∷ ds) = dims (d ∷ ds) ∷ []

abbrev pub parts_of : DefGroup → List Part
parts_of g = val_parts g.val ++ (scl_parts g.scl ++ (number_parts ty g.ty ++ (tag_parts g.tag ++ (number_parts line g.line ++ (number_parts size g.size ++ dims_parts (significant g.dims))))))

-- a semicolon and a blank before a further statement of the line
abbrev pub further_statement : Statement → List ℕ
further_statement s = codes "; " ++ statement_text s

abbrev pub parts_text : List Part → List ℕ
parts_text [] = []
parts_text (p ∷ ps) = further_statement (part_statement p) ++ parts_text ps

-- the line of a group
abbrev pub group_text : DefGroup → List ℕ
group_text g = 9 ∷ (statement_text (with_one words.Def (plain (name g.name))) ++ (parts_text (parts_of g) ++ codes "; .endef\n"))
