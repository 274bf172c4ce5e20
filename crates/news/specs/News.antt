-- The HP-IL and HP-IB status bytes of section 4, one for each side of the mailbox.
use Rattle.std.specs.Prelude.{ℕ, ◌%◌, true, false, cond, ◌&&◌, not, eqb}
use Rattle.news.specs.declared.News.{News}

-- nothing is told: at the start, when the way is empty again, and on the bus when the byte was read
abbrev pub no_news : News
no_news = record { request = false; available = false; again = false }

-- HP-IL Operation, retrieving data, and HP-IB Operation, likewise: something comes into an empty way
abbrev pub come : News
come = record { request = true; available = true; again = true }

-- HP-IL status byte and that of HP-IB: bit 6 is the request, bit 0 says that data is there
unfoldable pub news_byte : News → ℕ
news_byte n = cond n.request (cond n.available 65 64) (cond n.available 1 0)

-- Response to HP-IL messages, send status: the request ends with the byte that tells it
abbrev pub sent_status : News → News
sent_status n = record { request = false; available = n.available; again = false }

-- and bit 0, "clears its HP-IL status byte": when the byte d that showed it is back unchanged, unless something came since it was sent
abbrev pub returned : News → ℕ → News
returned n d = record { request = n.request; available = n.available && not (eqb (d % 2) 1 && not n.again); again = n.again }
