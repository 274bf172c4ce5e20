-- How the news of a way goes, over every call: bit 0 of the status byte of the side that fetches, for both sides.
use Rattle.std.specs.Prelude.{◌≡◌, Bool, true, false, ◌&&◌, [], eqb}
use Rattle.machine.specs.Course.{of}
use Rattle.machine.specs.Machine.{of_calls}
use Rattle.frame.specs.Frame.{is_data, same_apart}
use Rattle.mailbox.specs.Calls.{Call, World}
use Rattle.maillaws.specs.Mailboxes.{Law, Saw}
use Rattle.maillaws.specs.Sights.{Direction, to_bus, to_loop, news_of, waits, any, on_frame, fetched, clears, comes, told}

-- the status byte tells the bus once, and the loop until it is back
abbrev pub after_telling : Direction → Bool → Bool
after_telling to_bus x = false
after_telling to_loop x = x

-- the status byte that is under way on the loop is back unchanged
abbrev pub status_back : Direction → Call → World → Bool
status_back to_bus c w = false
status_back to_loop c w = on_frame (λ f. (is_data f && same_apart f w.state.talker.under.frame) && eqb w.state.talker.role.phase 3) false c

-- the news over a call
pub record NewsRight (d : Direction) (s : Saw) : Type 0 where
  -- it begins when something comes into the empty way
  pub begins : of (comes d) s ≡ true → (news_of d s.after).available ≡ true
  -- the status byte ends it on the bus, and on the loop it does not
  pub asked : any (of (told d) s) ≡ true → (news_of d s.after).available ≡ after_telling d (news_of d s.before).available
  -- it ends when the last that waits is fetched, and not before, and by a clear
  pub spent : any (of (fetched d) s) ≡ true → waits d s.after ≡ [] → (news_of d s.after).available ≡ false
  pub kept : any (of (fetched d) s) ≡ true → any (waits d s.after) ≡ true → (news_of d s.after).available ≡ (news_of d s.before).available
  pub cleared : of (clears d) s ≡ true → (news_of d s.after).available ≡ false
  -- a status byte that is back begins nothing
  pub back : of (comes d) s ≡ false → status_back d s.call s.before ≡ true → (news_of d s.before).available ≡ false →
      (news_of d s.after).available ≡ false
  -- and no other call changes it
  pub stays : of (comes d) s ≡ false → any (of (told d) s) ≡ false → any (of (fetched d) s) ≡ false → of (clears d) s ≡ false →
      status_back d s.call s.before ≡ false → (news_of d s.after).available ≡ (news_of d s.before).available

abbrev pub NewsGo : Direction → Law
NewsGo d = of_calls (NewsRight d)
