use Rattle.std.proofs.Common.{◌≡◌, drop}
use Rattle.std.specs.Prelude.{find}
use Rattle.std.specs.Str.{bytes_eq}
use Rattle.asm_item.specs.Words.{keyword_text}
use Rattle.asm_read.proofs.keywords.named_in.Given as goal

abbrev pub invariant-loop-k : goal.invariant-loop-k
invariant-loop-k l = find (λ k. bytes_eq (keyword_text k) l.w) (drop l.k-index l.list) ≡ find (λ k. bytes_eq (keyword_text k) l.w) l.list
