-- Frames are passed one after the other, up to the last that counts.
use Rattle.std.proofs.Common.{◌≡◌, ℕ, suc, ◌+◌, ◌≤◌, List, [], ◌∷◌, ◌++◌, length, drop, Option, None, Some, refl, sym, ap, subst, ◌∙◌, append_assoc, append-nil, length-append, arith}
use Rattle.std.proofs.lemmas.List.{drop-drop, length-take-le, length-drop}
use Rattle.std.proofs.lemmas.List.Sums.{sum_by-append, sum_by-cons}
use Rattle.std.specs.Option.{option_map}
use Rattle.oplog_file.specs.Frames.{Frame, frame_bytes}
use Rattle.oplog_file.specs.Fronts.{payload_in}
use Rattle.oplog_file.specs.Counting.{entries_part, entry_in_front, Count, entry_frames, bytes_of}
use Rattle.oplog_file.specs.Files.{File, IsFile}
use Rattle.oplog_file.specs.Writers.{Place, IsBehind, IsInFront, frame_behind, Stands}
use Rattle.oplog_file.specs.Passing.{entry_told, PassesNext, HasPassed}
use Rattle.oplog_file.proofs.CountLaws.{one_list, entry_frames_count}

-- the frame that was fetched is passed
pub passes_next : (area : List ℕ) (epoch count used last n : ℕ) (payload room shown : List ℕ) (found : Option ℕ) (old : Place)
    → old ≡ record { epoch = epoch; count = count; used = used; last = last; payload = payload }
    → entry_in_front epoch (count + 1) (drop used (entries_part area)) ≡ option_map (entry_told epoch (count + 1) room) found → found ≡ Some n → 32 + n ≤ length room → shown ≡ room
    → PassesNext area old (record { epoch = epoch; count = count + 1; used = used + (32 + n); last = used; payload = payload_in n shown })
passes_next area epoch count used last n payload room shown found old was counts is enough same =
    let new : Place = record { epoch = epoch; count = count + 1; used = used + (32 + n); last = used; payload = payload_in n shown } in
    subst (λ (p : Place). PassesNext area p new) (sym was) (record {
      next = entry_told epoch (count + 1) room n;
      counts = counts ∙ ap (option_map (entry_told epoch (count + 1) room)) is;
      passes = record {
        epoch = refl;
        count = refl;
        used = omega (arith, length-take-le n (drop 32 room) (omega (arith, enough, length-drop 32 room)));
        last = refl;
        payload = ap (payload_in n) same;
      };
    })

-- ---- from the first frame to the last

module _ (area : List ℕ) where
  -- in front of the first nothing was passed
  pub passed_none : (place : Place) (epoch : ℕ) → IsInFront place epoch → HasPassed area place []
  passed_none place epoch front = record {
    passed_count = front.none;
    passed_bytes = front.unused;
    rest = λ frames counts.
        let from_start : Count place.epoch 1 (entries_part area) frames =
        subst (λ n. Count place.epoch 1 (drop n (entries_part area)) frames) front.unused (subst (λ n. Count place.epoch (n + 1) (drop place.used (entries_part area)) frames) front.none counts) in
        one_list place.epoch 1 (entries_part area) (entry_frames place.epoch area) frames (entry_frames_count place.epoch area) from_start;
  }

  -- one more
  pub passed_more : (old new : Place) (passed : List Frame) → HasPassed area old passed → (next : PassesNext area old new) → HasPassed area new (passed ++ next.next ∷ [])
  passed_more old new passed has one = record {
    passed_count = omega (arith, has.passed_count, one.passes.count, length-append passed (f ∷ []));
    passed_bytes = omega (arith, has.passed_bytes, one.passes.used, sum_by-append frame_bytes passed (f ∷ []), sum_by-cons frame_bytes f []);
    rest = λ frames counts.
        let number : new.count + 1 ≡ suc (old.count + 1) = omega (arith, one.passes.count) in
        let bytes : drop new.used (entries_part area) ≡ drop (frame_bytes f) (drop old.used (entries_part area)) =
        ap (λ n. drop n (entries_part area)) one.passes.used ∙ sym (drop-drop (frame_bytes f) old.used (entries_part area)) in
        let here : Count old.epoch (new.count + 1) (drop new.used (entries_part area)) frames = subst (λ e. Count e (new.count + 1) (drop new.used (entries_part area)) frames) one.passes.epoch counts in
        let there : Count old.epoch (suc (old.count + 1)) (drop (frame_bytes f) (drop old.used (entries_part area))) frames =
        subst (λ l. Count old.epoch (suc (old.count + 1)) l frames) bytes (subst (λ n. Count old.epoch n (drop new.used (entries_part area)) frames) number here) in
        ap (λ e. entry_frames e area) one.passes.epoch ∙ has.rest (f ∷ frames) (one.counts, there) ∙ sym (append_assoc passed (f ∷ []) frames);
  }
    where
      f : Frame
      f = one.next

  -- none more
  pub passed_still : (old new : Place) (passed : List Frame) → HasPassed area old passed → Stands old new → HasPassed area new passed
  passed_still old new passed has stands = record {
    passed_count = stands.count ∙ has.passed_count;
    passed_bytes = stands.used ∙ has.passed_bytes;
    rest = λ frames counts.
        let here : Count old.epoch (old.count + 1) (drop old.used (entries_part area)) frames =
        subst (λ n. Count old.epoch (old.count + 1) (drop n (entries_part area)) frames) stands.used
        (subst (λ n. Count old.epoch (n + 1) (drop new.used (entries_part area)) frames) stands.count (subst (λ e. Count e (new.count + 1) (drop new.used (entries_part area)) frames) stands.epoch counts)) in
        ap (λ e. entry_frames e area) stands.epoch ∙ has.rest frames here;
  }

  -- where none counts next, all were passed
  pub passed_all : (place : Place) (passed : List Frame) → HasPassed area place passed → frame_behind place area ≡ None → entry_frames place.epoch area ≡ passed
  passed_all place passed has none = has.rest [] none ∙ append-nil passed

  -- and the place is behind the file
  pub passed_behind : (place : Place) (passed : List Frame) (file : File) → HasPassed area place passed → frame_behind place area ≡ None → IsFile area file → place.epoch ≡ file.header.epoch → IsBehind place file
  passed_behind place passed file has none is same =
      let all : file.frames ≡ passed = sym is.frames_are ∙ ap (λ e. entry_frames e area) (sym same) ∙ passed_all place passed has none in
      record {
        epoch = same;
        count = has.passed_count ∙ ap length (sym all);
        used = has.passed_bytes ∙ ap bytes_of (sym all);
      }
