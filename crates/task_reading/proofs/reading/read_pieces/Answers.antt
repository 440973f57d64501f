use Rattle.std.proofs.Common.{◌≡◌, inr, arith, refl, length, take, ap, sym, drop, ◌++◌, ◌∙◌, length-append, length-drop}
use Rattle.std.proofs.lemmas.List.{take-append-le, length-take}
use Rattle.std.proofs.KnownBytes.{Consumes-kept}
use Rattle.task_reading.proofs.Feeding.{all_taken, more_fed, ends_ok, ends_err, ends_long}
use Rattle.task_reading.proofs.reading.read_pieces.Goals as goal

pub returns-in-Ok-finish-clause-found : goal.returns-in-Ok-finish-clause-found
returns-in-Ok-finish-clause-found g c =
    let bytes = rw c.in-Ok-eq0.field-0-test at c.in-Ok-eq0.ensures.bytes in
    ends_ok c.pieces.invariant.fed _ c.in-Ok-finish.links bytes.0 (bytes.1 refl (omega (arith, c.min-want.ensures, c.take.auto.room, length-take c.min-want.result c.pieces.room, c.pieces.invariant.room))) c.pieces-test.true c.in-Ok-finish.ensures.value

pub returns-in-Err-finish-clause-found : goal.returns-in-Err-finish-clause-found
returns-in-Err-finish-clause-found g c =
    let bytes = rw c.in-Ok-eq0.field-0-test at c.in-Ok-eq0.ensures.bytes in
    ends_err c.pieces.invariant.fed _ c.in-Err-finish.error c.of_relations.result bytes.0 (bytes.1 refl (omega (arith, c.min-want.ensures, c.take.auto.room, length-take c.min-want.result c.pieces.room, c.pieces.invariant.room))) c.pieces-test.true c.in-Err-finish.ensures.value c.of_relations.ensures

pub pieces-preserved : goal.pieces-preserved
pieces-preserved g c =
    let piece = take-append-le c.in-Ok.count c.take.new.room (drop c.min-want.result c.pieces.room) c.in-Ok.ensures.bound.0 in
    let piece_long : length (take c.in-Ok.count (c.take.new.room ++ drop c.min-want.result c.pieces.room)) ≡ c.in-Ok.count = ap length piece ∙ sym c.in-Ok.ensures.bound.1 in
    let fed = more_fed _ _ _ c.pieces.reader c.feed.new.self c.feed.result c.pieces.taken c.in-Ok.count (take c.in-Ok.count c.take.new.room) c.pieces.invariant.fed
    c.in-Ok.ensures.bytes.0 (sym c.in-Ok.ensures.bound.1) (rw piece at c.feed.ensures.goes_on) c.feed.ensures.stays in
    record {
      room = omega (
        arith,
        length-append c.take.new.room (drop c.min-want.result c.pieces.room),
        length-drop c.min-want.result c.pieces.room,
        c.min-want.ensures,
        c.take.auto.room,
        length-take c.min-want.result c.pieces.room,
        c.pieces.invariant.room,
      );
      some = c.pieces.invariant.some;
      within = omega (arith, c.in-Ok.ensures.bound.0, c.min-want.ensures, c.take.auto.room, length-take c.min-want.result c.pieces.room);
      fed = fed;
      line = omega (arith, c.feed.ensures.line, c.pieces.invariant.line, c.in-Ok.ensures.bound.1, piece_long);
      sound = λ is. (c.in-Ok.ensures.sound (c.pieces.invariant.sound is)).1;
      keeps = record {
        holds_same = λ n. c.take.ensures.keeps.holds_same n ∙ c.pieces.invariant.keeps.holds_same n;
        sound = λ n is. c.take.ensures.keeps.sound n (c.pieces.invariant.keeps.sound n is);
        later = omega (arith, c.take.ensures.keeps.later, c.pieces.invariant.keeps.later);
      };
    }

pub returns-clause-found : goal.returns-clause-found
returns-clause-found g c = ends_long c.pieces.invariant.fed (omega (arith, c.pieces-test.false))

pub returns-in-Err-clause-taken : goal.returns-in-Err-clause-taken
returns-in-Err-clause-taken g c =
    let fed = c.pieces.invariant.fed in
    inr (record { bytes = fed.bytes; within = omega (arith, fed.long, c.pieces.invariant.within); taken = Consumes-kept _ _ _ fed.bytes fed.took c.in-Err.ensures.bytes })

pub returns-in-Ok-finish-clause-taken : goal.returns-in-Ok-finish-clause-taken
returns-in-Ok-finish-clause-taken g c =
    let bytes = rw c.in-Ok-eq0.field-0-test at c.in-Ok-eq0.ensures.bytes in
    let end = bytes.1 refl (omega (arith, c.min-want.ensures, c.take.auto.room, length-take c.min-want.result c.pieces.room, c.pieces.invariant.room)) in
    (end, all_taken c.pieces.invariant.fed _ bytes.0 c.pieces-test.true)

pub returns-in-Err-finish-clause-taken : goal.returns-in-Err-finish-clause-taken
returns-in-Err-finish-clause-taken g c =
    let bytes = rw c.in-Ok-eq0.field-0-test at c.in-Ok-eq0.ensures.bytes in
    let all = all_taken c.pieces.invariant.fed _ bytes.0 c.pieces-test.true in
    inr (record { bytes = all.bytes; within = omega (arith, all.within); taken = all.taken })

pub returns-clause-taken : goal.returns-clause-taken
returns-clause-taken g c =
    let fed = c.pieces.invariant.fed in
    inr (record { bytes = fed.bytes; within = omega (arith, fed.long, c.pieces.invariant.within); taken = fed.took })
