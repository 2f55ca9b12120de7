pub mod RisingEntries
