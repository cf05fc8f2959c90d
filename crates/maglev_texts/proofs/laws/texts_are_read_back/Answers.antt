use Rattle.maglev_texts.proofs.Numerals.{read_back, only_read}
use Rattle.maglev_texts.proofs.Addresses.{addresses_read_back, only_addresses_read}
use Rattle.maglev_texts.proofs.MemberTexts.{members_read_back, only_members_read}
use Rattle.maglev_texts.proofs.WeighedTexts.{weighed_read_back, words_mean_the_same}
use Rattle.maglev_texts.proofs.StatedTexts.{weighed_words_mean_the_same, stated_read_back}
use Rattle.maglev_texts.proofs.laws.texts_are_read_back.Goals as goal

pub returns-clause-decimals : goal.returns-clause-decimals
returns-clause-decimals c = λ limit n small le. read_back limit n small le

pub returns-clause-only_decimals : goal.returns-clause-only_decimals
returns-clause-only_decimals c = λ limit n text small h. only_read limit n text small h

pub returns-clause-addresses : goal.returns-clause-addresses
returns-clause-addresses c = λ a few. addresses_read_back a few

pub returns-clause-only_addresses : goal.returns-clause-only_addresses
returns-clause-only_addresses c = λ a text h. only_addresses_read a text h

pub returns-clause-members : goal.returns-clause-members
returns-clause-members c = λ m one stays named few. members_read_back m one stays named few

pub returns-clause-only_members : goal.returns-clause-only_members
returns-clause-only_members c = λ m text h. only_members_read m text h

pub returns-clause-weighed_members : goal.returns-clause-weighed_members
returns-clause-weighed_members c = λ m low high stays named few. weighed_read_back m low high stays named few

pub returns-clause-unweighed : goal.returns-clause-unweighed
returns-clause-unweighed c = λ m text h. words_mean_the_same m text h

pub returns-clause-stated_members : goal.returns-clause-stated_members
returns-clause-stated_members c = λ m low high one named few. stated_read_back m low high one named few

pub returns-clause-unstated : goal.returns-clause-unstated
returns-clause-unstated c = λ m text h. weighed_words_mean_the_same m text h
