use Rattle.std.proofs.Common.{Result, Ok, Err, IfOk}
use Rattle.asm_read.proofs.NormalItems.{read_is_normal}
use Rattle.asm_read.proofs.TextShape.{reads_text, leaves}
use Rattle.asm_read.proofs.read.Goals as goal

if_ok : {A E : Type 0} (P Q : A → Type 0) (r : Result A E) → ((x : A) → P x → Q x) → IfOk r P → IfOk r Q
if_ok P Q (Ok x) f h = f x h
if_ok P Q (Err e) f h = tt

pub returns-clause-grammar : goal.returns-clause-grammar
returns-clause-grammar c = if_ok _ _ c.read_stmts.result (reads_text c.args.text.now) c.read_stmts.ensures.items

pub returns-clause-normal : goal.returns-clause-normal
returns-clause-normal c = if_ok _ _ c.read_stmts.result (read_is_normal c.args.text.now) c.read_stmts.ensures.items

pub returns-clause-leaves : goal.returns-clause-leaves
returns-clause-leaves c = λ n e. leaves c.args.text.now n (c.read_stmts.ensures.line n e)
