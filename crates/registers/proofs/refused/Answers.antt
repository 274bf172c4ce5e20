use mathlib.Core.Path.{refl}
use Rattle.std.specs.Prelude.{◌≡◌, Some}
use Rattle.registers.specs.Table.{carried_of, carries}
use Rattle.registers.proofs.Wording.{none_is, some_is, none_else}
use Rattle.registers.proofs.Ways.{gives_five, gives_six, gives_seven, gives_eight, gives_none}
use Rattle.registers.proofs.refused.Goals as goal

-- `registers::refused` meets its contract: each way out is one step further down the list of checks.

pub returns-in_default : goal.returns-in_default
returns-in_default c =
    let n = carried_of c.args.n in
    let e = none_else c.carried.result c.in_default.not-Some in
    gives_five c.args.g c.args.n c.args.v n refl (none_is n (cc))

pub returns-then-too_large : goal.returns-then-too_large
returns-then-too_large c =
    let n = carried_of c.args.n in
    let e : Some c.in-Some.k ≡ carries n = cc in
    gives_six c.args.g c.args.n c.args.v n refl (some_is n c.in-Some.k e) _ (c.too_large.ensures n e) c.if-too_large.true

pub returns-then-bit_not_carried : goal.returns-then-bit_not_carried
returns-then-bit_not_carried c =
    let n = carried_of c.args.n in
    let e : Some c.in-Some.k ≡ carries n = cc in
    gives_seven c.args.g c.args.n c.args.v n refl (some_is n c.in-Some.k e) _ (c.too_large.ensures n e) c.if-too_large.false _ (c.bit_not_carried.ensures n e)
    c.if-bit_not_carried.true

pub returns-then-after : goal.returns-then-after
returns-then-after c =
    let n = carried_of c.args.n in
    let e : Some c.in-Some.k ≡ carries n = cc in
    gives_eight c.args.g c.args.n c.args.v n refl (some_is n c.in-Some.k e) _ (c.too_large.ensures n e) c.if-too_large.false _ (c.bit_not_carried.ensures n e)
    c.if-bit_not_carried.false _ c.written-after.ensures c.if-after.true

pub returns : goal.returns
returns c =
    let n = carried_of c.args.n in
    let e : Some c.in-Some.k ≡ carries n = cc in
    gives_none c.args.g c.args.n c.args.v n refl (some_is n c.in-Some.k e) _ (c.too_large.ensures n e) c.if-too_large.false _ (c.bit_not_carried.ensures n e)
    c.if-bit_not_carried.false _ c.written-after.ensures c.if-after.false
