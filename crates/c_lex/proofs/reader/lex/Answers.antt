use Rattle.std.proofs.Common.{◌≡◌, ◌<◌, ◌≤◌, ◌+◌, ◌-◌, length, take, map, [], ◌++◌, sym, subst, arith}
use Rattle.std.proofs.lemmas.List.{length-take-le}
use Rattle.c_lex.specs.Falls.{with_token}
use Rattle.c_lex.specs.Shown.{token_of, shown}
use Rattle.c_lex.specs.Refusals.{Refuses, HasRead}
use Rattle.c_lex.proofs.Shows.{piece_at, refused_at}
use Rattle.c_lex.proofs.Growing.{read_more, shorter}
use Rattle.c_lex.proofs.reader.lex.Goals as goal

pub returns-in-Err-clause-refused : goal.returns-in-Err-clause-refused
returns-in-Err-clause-refused c =
    let some : 0 < length c.loop-rest.rest.now = grind arith in
    subst (λ e. Refuses e c.args.text.now) (sym c.refused.ensures) (refused_at c.in-Err.fault c.args.text.now c.loop-rest.rest.now (map token_of c.loop-rest.list.items) c.loop-rest.line some c.loop-rest.invariant.read c.in-Err.ensures)

pub slice_bounds-newlines-count : goal.slice_bounds-newlines-count
slice_bounds-newlines-count c =
    let some : 0 < length c.loop-rest.rest.now = grind arith in
    let less : length c.in-Ok.front.rest.now < length c.loop-rest.rest.now = shorter c.loop-rest.rest.now c.in-Ok.front.rest.now (shown c.in-Ok.front.kind) (piece_at c.loop-rest.rest.now c.in-Ok.front.rest.now (shown c.in-Ok.front.kind) some c.in-Ok.ensures) in
    omega arith

pub loop-rest-smaller : goal.loop-rest-smaller
loop-rest-smaller c =
    let some : 0 < length c.loop-rest.rest.now = grind arith in
    shorter c.loop-rest.rest.now c.in-Ok.front.rest.now (shown c.in-Ok.front.kind) (piece_at c.loop-rest.rest.now c.in-Ok.front.rest.now (shown c.in-Ok.front.kind) some c.in-Ok.ensures)

pub loop-rest-preserved : goal.loop-rest-preserved
loop-rest-preserved c =
    let some : 0 < length c.loop-rest.rest.now = grind arith in
    let x = piece_at c.loop-rest.rest.now c.in-Ok.front.rest.now (shown c.in-Ok.front.kind) some c.in-Ok.ensures in
    let less : length c.in-Ok.front.rest.now < length c.loop-rest.rest.now = shorter c.loop-rest.rest.now c.in-Ok.front.rest.now (shown c.in-Ok.front.kind) x in
    let more = read_more c.args.text.now c.loop-rest.rest.now c.in-Ok.front.rest.now (map token_of c.loop-rest.list.items) c.loop-rest.line (shown c.in-Ok.front.kind) c.loop-rest.invariant.read x in
    let counted = c.newlines.ensures.count in
    let few : c.newlines.result ≤ length (take (length c.loop-rest.rest.now - length c.in-Ok.front.rest.now) c.loop-rest.rest.now) = c.newlines.ensures.few in
    let taken : length (take (length c.loop-rest.rest.now - length c.in-Ok.front.rest.now) c.loop-rest.rest.now) ≡ length c.loop-rest.rest.now - length c.in-Ok.front.rest.now = length-take-le (length c.loop-rest.rest.now - length c.in-Ok.front.rest.now) c.loop-rest.rest.now (omega arith) in
    record {
      read = subst (λ ts. HasRead c.args.text.now ts (c.loop-rest.line + c.newlines.result) c.in-Ok.front.rest.now) (sym c.in_ok-push.ensures.pushed) (subst (λ n. HasRead c.args.text.now (map token_of c.loop-rest.list.items ++ with_token c.loop-rest.line (shown c.in-Ok.front.kind) []) (c.loop-rest.line + n) c.in-Ok.front.rest.now) (sym counted) more);
      few = omega arith;
    }
