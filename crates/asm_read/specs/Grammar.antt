-- Which statements make a text, and at which line other statements leave the grammar.
use Rattle.std.specs.Prelude.{◌≡◌, ℕ, ◌+◌, ◌≤◌, ◌⊎◌, List, [], ◌∷◌, ◌++◌, map}
use Rattle.std.specs.List.{flat_map}
use Rattle.asm_item.specs.declared.model.DefGroup.{DefGroup}
use Rattle.asm_item.specs.declared.model.Item.{Item}
use Rattle.asm_item.specs.declared.model.Item.TheVariants as items
use Rattle.asm_item.specs.Groups.{Part}
use Rattle.asm_item.specs.Normal.{files}
use Rattle.asm_read.specs.Stmts.{Stmt, item, begin, part, end}
use Rattle.asm_read.specs.Reading.{At, rank, empty_group, with_part}

-- what a text consists of: an item that is one statement, or a group with its parts
pub data Block : Type 0 where
  single : (i : Item) → Block
  group : (k : List ℕ) (ps : List Part) → Block

-- the statements of a block
abbrev pub block_stmts : Block → List Stmt
block_stmts (single i) = item i ∷ []
block_stmts (group k ps) = begin k ∷ (map part ps ++ (end ∷ []))

-- the group with these parts
abbrev pub with_parts : DefGroup → List Part → DefGroup
with_parts g [] = g
with_parts g (p ∷ ps) = with_parts (with_part g p) ps

-- the item of a block
abbrev pub block_item : Block → Item
block_item (single i) = i
block_item (group k ps) = items.Def (with_parts (empty_group k) ps)

-- parts in their order, each at most once, from this place on
abbrev pub InOrder : ℕ → List Part → Type 0
InOrder from [] = Unit {0}
InOrder from (p ∷ ps) = (from ≤ rank p) × InOrder (rank p + 1) ps

-- the parts of each group are in order
abbrev pub AreInOrder : List Block → Type 0
AreInOrder [] = Unit {0}
AreInOrder (single i ∷ bs) = AreInOrder bs
AreInOrder (group k ps ∷ bs) = InOrder 0 ps × AreInOrder bs

-- the statements of a text with these items: blocks one behind the other, and at most one source file
pub record IsText (ss : List Stmt) (found : List Item) : Type 0 where
  pub blocks : List Block
  pub ordered : AreInOrder blocks
  pub stmts_are : ss ≡ flat_map block_stmts blocks
  pub items_are : found ≡ map block_item blocks
  pub one_file : files found ≤ 1

-- statements that can go on to a text
pub record Begins (ss : List Stmt) : Type 0 where
  pub more : List Stmt
  pub found : List Item
  pub text : IsText (ss ++ more) found

-- the statements without their lines
abbrev pub stmts : List At → List Stmt
stmts ats = map (λ a. a.stmt) ats

-- this is the line of the first statement that can't stand there after those before it
pub record CantStand (ats : List At) (n : ℕ) : Type 0 where
  pub before : List At
  pub at : At
  pub after : List At
  pub parts_are : ats ≡ before ++ (at ∷ after)
  pub line_is : n ≡ at.line
  pub can : Begins (stmts before)
  pub cannot : ¬ Begins (stmts before ++ (at.stmt ∷ []))

-- each statement can stand there, and this is the line of a `.def` behind which parts alone follow
pub record IsUnclosed (ats : List At) (n : ℕ) : Type 0 where
  pub before : List At
  pub at : At
  pub after : List At
  pub name : List ℕ
  pub parts : List Part
  pub parts_are : ats ≡ before ++ (at ∷ after)
  pub line_is : n ≡ at.line
  pub begins : at.stmt ≡ begin name
  pub follow : stmts after ≡ map part parts
  pub can : Begins (stmts ats)

-- the line at which statements leave the grammar
abbrev pub Leaves : List At → ℕ → Type 0
Leaves ats n = CantStand ats n ⊎ IsUnclosed ats n
