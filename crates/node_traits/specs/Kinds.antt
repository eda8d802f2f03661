-- The names of the kinds of messages in scripts (own).
use Rattle.std.specs.Prelude.{ℕ, List, codes}
use Rattle.node_model.specs.Letters.{Body, table_ask, table_told, split_ask, split_done, write_ask, write_done, read_ask, half_ask, read_rows, refused, time_ask, time_told}

abbrev pub kind_of : Body → List ℕ
kind_of (table_ask namespace create at) = codes "TableAsk"
kind_of (table_told namespace create at table) = codes "TableTold"
kind_of (split_ask id namespace middle) = codes "SplitAsk"
kind_of (split_done id found) = codes "SplitDone"
kind_of (write_ask id turn ordered namespace statements sent) = codes "WriteAsk"
kind_of (write_done id dones) = codes "WriteDone"
kind_of (read_ask id turn namespace at half sent) = codes "ReadAsk"
kind_of (half_ask id turn namespace at half documents) = codes "HalfAsk"
kind_of (read_rows id turn rows) = codes "ReadRows"
kind_of (refused what cause) = codes "Refused"
kind_of (time_ask id) = codes "TimeAsk"
kind_of (time_told id) = codes "TimeTold"
