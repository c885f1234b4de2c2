-- What is read as a wish, against the format in its own words. Assumes nothing.
use Rattle.std.proofs.Common.{◌≡◌, ℕ, ◌≤◌, true, List, [], ◌++◌, length, drop, is_some, Some, sym, refl, ap, subst, arith, length-append, length-drop}
use Rattle.std.proofs.lemmas.List.{length-take-le, take-append-drop}
use Rattle.narrow.specs.Can.{same_bytes}
use Rattle.narrow.proofs.Rows.{some_value, some_is, when_true_is}
use Rattle.numbers.specs.Places.{byte, AreBytes}
use Rattle.numbers.proofs.Bytes.{two_in_front, by_places}
use Rattle.parts.specs.Limits.{WishView}
use Rattle.wishes.specs.Format.{wish_bytes}
use Rattle.wishes.specs.Reading.{wish_guess, wish_of}
use Rattle.wishes.specs.Shapes.{WishFront, WishParts}
use Rattle.wishes.specs.Laws.{WishesBack, WishesExact, WishFormat}
use Rattle.wishes.proofs.Decoding.{wish_read_is, wish_read_only}

pub wishes_back : WishesBack
wishes_back w rest = wish_read_is w rest _ refl

pub wishes_exact : WishesExact
wishes_exact = wish_read_only

-- the bytes that begin with a wish, as one that was written
front_written : (bs : List ℕ) → AreBytes bs → WishFront bs → bs ≡ wish_bytes (wish_guess bs) ++ drop (byte bs 7) (drop 8 bs)
front_written bs bytes f =
    let k = f.kind_is in
    let room : byte bs 7 ≤ length (drop 8 bs) = omega (arith, f.long, length-drop 8 bs) in
    let whole = by_places 8 bs (omega (arith, f.long)) in
    let day = two_in_front (byte bs 2) (byte bs 3) [] (bytes 3) in
    let minute = two_in_front (byte bs 4) (byte bs 5) [] (bytes 5) in
    let long = length-take-le (byte bs 7) (drop 8 bs) room in
    let parts = take-append-drop (byte bs 7) (drop 8 bs) in
    cc

written_front : (w : WishView) (rest : List ℕ) → WishFront (wish_bytes w ++ rest)
written_front w rest = record { kind_is = refl; long = omega (arith, length-append w.name rest) }

pub wish_format : WishFormat
unfolding wish_of
wish_format bs bytes = record { front = (there, back); parts = parts }
  where
    there : is_some (wish_of bs) ≡ true → WishFront bs
    there h =
        let r = some_value (wish_of bs) h in
        subst WishFront (sym (wish_read_only bs r.0.0 r.0.1 r.1)) (written_front r.0.0 r.0.1)

    back : WishFront bs → is_some (wish_of bs) ≡ true
    back f =
        let rest = drop (byte bs 7) (drop 8 bs) in
        some_is (wish_of bs) (wish_guess bs, rest) (wish_read_is (wish_guess bs) rest bs (front_written bs bytes f))

    parts : (w : WishView) (rest : List ℕ) → wish_of bs ≡ Some (w, rest) → WishParts bs w rest
    parts w rest h =
        let left = drop (byte bs 7) (drop 8 bs) in
        let r = when_true_is (same_bytes bs (wish_bytes (wish_guess bs) ++ left)) (wish_guess bs, left) (w, rest) h in
        let same : w ≡ wish_guess bs = sym (ap (λ (p : WishView × List ℕ). p.0) r.1) in
        record {
          museum_at = ap (λ (v : WishView). v.museum) same;
          day_at = ap (λ (v : WishView). v.day) same;
          minute_at = ap (λ (v : WishView). v.minute) same;
          persons_at = ap (λ (v : WishView). v.persons) same;
          name_at = ap (λ (v : WishView). v.name) same;
          rest_at = sym (ap (λ (p : WishView × List ℕ). p.1) r.1);
        }
