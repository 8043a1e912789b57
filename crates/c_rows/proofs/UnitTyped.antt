-- A unit and the typed unit that belongs to it: int g; main() { int x; x = 5; g = x + 1; return g; }
use Rattle.std.specs.Prelude.{[], ◌∷◌, Some, None, false, refl}
use Rattle.c_type.specs.declared.Kind.TheVariants.{Int}
use Rattle.c_type.specs.Names.{Name}
use Rattle.c_tree.specs.declared.expr.AssignOp.TheVariants.{Set}
use Rattle.c_tree.specs.declared.expr.BinaryOp.TheVariants as bo
use Rattle.c_tree.specs.TreeExpr as u
use Rattle.c_tree.specs.TreeDecl as ud
use Rattle.c_tree.specs.TreeStmt as us
use Rattle.c_tree.specs.TreeUnit as uu
use Rattle.c_tree.specs.TUnit.{TypedUnit}
use Rattle.c_rule.specs.RuleUnit.{IsTyped}
use Rattle.c_rows.proofs.Seen.{unit_at}
use Rattle.c_rows.proofs.MachineRows.{four}

abbrev n-g : Name
n-g = 103 ∷ []

abbrev n-x : Name
n-x = 120 ∷ []

abbrev n-main : Name
n-main = 109 ∷ (97 ∷ (105 ∷ (110 ∷ [])))

abbrev words : ud.FileSpecs
words = record { storage = None; types = Some (ud.spec (u.num Int)) }

abbrev read : uu.Unit
read = record {
  exts =
      uu.object 1 words (record { declr = ud.name 1 n-g; init = None } ∷ []) ∷
      (uu.func 2 None (ud.function 2 (ud.name 2 n-main) []) [] (record {
        line = 3;
        decls = record { line = 4; specs = record { storage = None; types = Some (u.num Int) }; items = record { declr = ud.name 4 n-x; init = None } ∷ [] } ∷ [];
        stmts = us.more_stmts (us.expr 5 (u.assign 5 Set (u.name 5 n-x) (u.int 5 5 false))) (us.more_stmts
            (us.expr 6 (u.assign 6 Set (u.name 6 n-g) (u.binary 6 bo.Add (u.name 6 n-x) (u.int 6 1 false)))) (us.more_stmts
            (us.return 7 (Some (u.name 7 n-g))) us.no_stmts));
        close_line = 8;
      }) ∷ []);
}

abbrev typed : TypedUnit
typed = unit_at four 0

-- g, x = 5, g = x + 1 and return g are typed, each behind those before it
typed_is : IsTyped read typed
typed_is = record {
  last = _;
  parts = (
    _,
    _,
    _,
    (_, _, _, _, (refl, refl, refl), (_, _, _, _, ((refl, refl, refl), refl), (_, _, refl, (_, refl, refl), (refl, refl), refl), (refl, refl), refl), refl),
    (
      _,
      _,
      _,
      (
        _,
        _,
        _,
        _,
        _,
        (refl, refl, refl),
        ((refl, refl, refl), refl),
        (
          _,
          _,
          _,
          refl,
          (_, (refl, refl), refl, refl, (_, refl, refl)),
          (_, _, _, _, refl, (_, _, _, _, ((refl, refl, refl), refl), (_, refl, (refl, refl), refl, refl), (refl, refl), refl), (refl, refl), refl),
          (
            _,
            _,
            _,
            (_, (_, (_, _, refl, refl, refl), refl), refl, refl),
            (
              _,
              _,
              _,
              (_, (_, (_, _, refl, (_, _, refl, refl, refl), refl), refl), refl, refl),
              (_, _, _, (_, (_, (_, refl, refl), refl), refl, refl), (refl, refl), refl),
              refl,
            ),
            refl,
          ),
          refl,
          refl,
          refl,
          refl,
          refl,
          refl,
          refl,
          refl,
        ),
        refl,
      ),
      (refl, refl),
      refl,
    ),
    refl,
  );
  defined_once = refl;
  tags_once = refl;
  tags = refl;
  texts = refl;
}
