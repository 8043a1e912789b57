-- Where the machine is when a statement ends, and what is asked of what is done at turns.
use Rattle.std.specs.Prelude.{ℕ, ◌≡◌, ◌+◌, ◌<◌, ◌≤◌, List, [], Some, None}
use Rattle.c_type.specs.declared.Kind.TheVariants.{Int}
use Rattle.c_type.specs.Types.{num}
use Rattle.mach_mem.specs.Space.{Space}
use Rattle.c_tree.specs.TExpr.{TExpr}
use Rattle.c_tree.specs.TStmt.{TStmt, TStmts, expr, while_, return_, block, no_stmts, more_stmts}
use Rattle.c_run.specs.State.{State, Made, Acts, Out, Gave, Halt, Flow, Next, Broke, Continued, Returned}
use Rattle.c_run.specs.Context.{Linked}
use Rattle.gen_small.specs.Ghost.{M, Prog}
use Rattle.gen_small.specs.Items.{Layout, Close}
use Rattle.gen_small.specs.Code.{temps}
use Rattle.gen_small.specs.Small.{IsSmall, cost}
use Rattle.gen_small.specs.Agree.{spell, IsVal, Ghost, Agree, Agrees}
use Rattle.gen_small.specs.Reaches.{IsAt, Halted, IsTyped}

module _ (p : Prog) (l : Layout) (w : Linked) where
  -- what is done at a turn, and what is done to memory, take states that agree to states that agree
  abbrev pub Kept : (f k : ℕ) (gs : List Ghost) (ebp esp : ℕ) (mem : Space) (input output : List ℕ) (turns : ℕ) (made : List Made) → Out (Unit {0}) → Type 0
  Kept f k gs ebp esp mem input output turns made (Gave u s) = Agree l w p.text s gs ebp esp mem input output turns made × IsAt s.chain f k
  Kept f k gs ebp esp mem input output turns made (Halt why s) = (m : M) → Halted p l w why s m

  abbrev pub Respects : Acts → Type 0
  Respects acts =
      (f k : ℕ) (s : State) (gs : List Ghost) (ebp esp : ℕ) (mem : Space) (input output : List ℕ) (turns : ℕ) (made : List Made) →
      Agree l w p.text s gs ebp esp mem input output turns made → IsAt s.chain f k →
      Kept f k gs ebp esp (p.poke turns made mem) input output turns made (acts s.turns s)

  -- a statement of function f has ended: at b, or at the function's close with a value in eax
  pub record Stood (gs : List Ghost) (f : ℕ) (at most : ℕ) (s : State) (m : M) : Type 0 where
    pub start : ℕ
    pub agree : Agrees l w p.text s gs m
    pub here : IsAt s.chain f start
    pub eip_is : m.eip ≡ at
    pub soon : m.since < most

  abbrev pub Flowed : (gs : List Ghost) (f b most : ℕ) → Flow → State → M → Type 0
  Flowed gs f b most Next s m = Stood gs f b most s m
  Flowed gs f b most Broke s m = ⊥
  Flowed gs f b most Continued s m = ⊥
  Flowed gs f b most (Returned None) s m = ⊥
  Flowed gs f b most (Returned (Some x)) s m =
      Stood gs f (l.label (Close f)) most s m × (m.regs.eax ≡ spell l w s.made x) × IsTyped (num Int) x × IsVal l w s.made x

-- an expression that begins at a start, with room for its temporaries and for its instructions and three more
pub record IsWhole (most : ℕ) (e : TExpr) : Type 0 where
  pub small : IsSmall e
  pub few : temps e ≤ 64
  pub soon : cost e + 5 ≤ most

-- a statement of the small form
abbrev mutual
  pub IsSmallStmt : ℕ → TStmt → Type 0
  IsSmallStmt most (expr k l e) = IsWhole most e
  IsSmallStmt most (while_ k l e body) = IsWhole most e × IsSmallStmt most body
  IsSmallStmt most (return_ k l (Some e)) = IsWhole most e
  IsSmallStmt most (block line [] ss close_line) = IsSmallStmts most ss
  IsSmallStmt most _ = ⊥

  pub IsSmallStmts : ℕ → TStmts → Type 0
  IsSmallStmts most no_stmts = Unit {0}
  IsSmallStmts most (more_stmts s ss) = IsSmallStmt most s × IsSmallStmts most ss
